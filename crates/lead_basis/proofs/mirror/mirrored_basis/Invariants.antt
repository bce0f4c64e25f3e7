use Rattle.std.proofs.Common.{take}
use Rattle.lead_basis.specs.Mirrors.{Mirrors}
use Rattle.lead_basis.proofs.mirror.mirrored_basis.Given as goal

abbrev pub invariant-loop-row : goal.invariant-loop-row
invariant-loop-row g l = Mirrors l.visible (take l.row-index l.rows) l.basis

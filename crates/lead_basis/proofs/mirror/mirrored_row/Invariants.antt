use Rattle.lead_basis.specs.Mirrors.{masked}
use Rattle.lead_basis.proofs.Filling.{IsTurned}
use Rattle.lead_basis.proofs.mirror.mirrored_row.Given as goal

abbrev pub invariant-loop-i : goal.invariant-loop-i
invariant-loop-i l = IsTurned (masked l.visible 0 l.row) l.words l.i

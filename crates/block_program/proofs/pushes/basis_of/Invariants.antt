use Rattle.std.proofs.Common.{take}
use Rattle.block_program.specs.Built.{IsBuilt}
use Rattle.block_program.proofs.pushes.basis_of.Given as goal

abbrev pub invariant-loop-row : goal.invariant-loop-row
invariant-loop-row g l = IsBuilt (take l.row-index l.rows) l.basis l.fn.steps l.steps

use Rattle.narrow_solver.proofs.Gathering.{HasScaled}
use Rattle.narrow_solver.proofs.solve.scaled_basis.Given as goal

abbrev pub invariant-loop-row : goal.invariant-loop-row
invariant-loop-row g l = HasScaled l.row-items l.basis l.row-index

use Rattle.std.proofs.Common.{◌≡◌, ◌++◌, drop}
use Rattle.narrow_solver.specs.Narrow.{kept}
use Rattle.narrow_solver.proofs.solve.kept_rows.Given as goal

abbrev pub invariant-loop-row : goal.invariant-loop-row
invariant-loop-row l = l.rows.items ++ kept (drop l.row-index l.row-items) ≡ kept l.row-items

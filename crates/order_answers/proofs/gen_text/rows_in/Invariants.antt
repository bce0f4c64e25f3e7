-- The rows of the points so far, at most 17 for each.
use Rattle.std.proofs.Common.{◌≡◌, ◌*◌, ◌≤◌, take}
use Rattle.std.specs.Prelude.{sum_by}
use Rattle.order_answers.specs.GenText.{rows_told}
use Rattle.order_answers.proofs.gen_text.rows_in.Given as goal

abbrev pub invariant-loop-point : goal.invariant-loop-point
invariant-loop-point l = (l.rows ≡ sum_by (λ point. rows_told point.state) (take l.point-index l.points)) × (l.rows ≤ 17 * l.point-index)

-- The unreached ones among the points so far.
use Rattle.std.proofs.Common.{◌≡◌, ◌≤◌, take}
use Rattle.std.specs.Prelude.{count_by}
use Rattle.order_answers.specs.GenText.{is_unreached}
use Rattle.order_answers.proofs.gen_text.unreached_in.Given as goal

abbrev pub invariant-loop-point : goal.invariant-loop-point
invariant-loop-point l =
    (l.unreached ≡ count_by (λ point. is_unreached point.state) (take l.point-index l.points)) × (l.unreached ≤ l.point-index)

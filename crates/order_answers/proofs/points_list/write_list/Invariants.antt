-- What is written and what stands for the points to come is the whole list.
use Rattle.std.proofs.Common.{◌≡◌, ◌++◌, drop}
use Rattle.order_answers.specs.PointsList.{codes_text}
use Rattle.order_answers.proofs.points_list.write_list.Given as goal

abbrev pub invariant-loop-i : goal.invariant-loop-i
invariant-loop-i l =
    l.text.items ++ codes_text l.before (drop l.i l.points.points)
    ≡ l.initial.text.items ++ codes_text l.initial.before l.points.points

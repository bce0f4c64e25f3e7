-- What is written and what stands for the points to come is the whole text.
use Rattle.std.proofs.Common.{◌≡◌, ◌++◌, drop}
use Rattle.report_text.specs.Text.{points_text}
use Rattle.report_text.proofs.writer.push_points.Given as goal

abbrev pub invariant-loop-point : goal.invariant-loop-point
invariant-loop-point l =
    l.text.items ++ points_text l.names l.certs l.before (drop l.point-index l.points)
    ≡ l.initial.text.items ++ points_text l.names l.initial.certs l.initial.before l.points

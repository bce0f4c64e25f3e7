-- The points so far, and what stands for those to come, are all points.
use Rattle.std.proofs.Common.{◌≡◌, ◌++◌, map, drop}
use Rattle.narrow_words.specs.Text.{widened_point}
use Rattle.narrow_words.proofs.text.widened_points.Given as goal

abbrev pub invariant-loop-point : goal.invariant-loop-point
invariant-loop-point l = l.own ++ map widened_point (drop l.point-index l.points) ≡ map widened_point l.points

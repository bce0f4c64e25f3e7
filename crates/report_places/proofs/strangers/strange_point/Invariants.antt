use Rattle.std.proofs.Common.{ℕ, Option, drop}
use Rattle.report_places.specs.Strangers.{FirstIs, IsStrangePoint}
use Rattle.report_places.proofs.strangers.strange_point.Given as goal

abbrev pub invariant-loop-point : goal.invariant-loop-point
invariant-loop-point l = (found : Option ℕ)
    → FirstIs (IsStrangePoint l.points.points) (λ t. t.address) (drop l.point-index l.told) found
    → FirstIs (IsStrangePoint l.points.points) (λ t. t.address) l.told found

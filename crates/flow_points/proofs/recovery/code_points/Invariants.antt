use Rattle.std.proofs.Common.{◌≡◌, take}
use Rattle.flow_points.specs.Causes.{codes_of}
use Rattle.flow_points.proofs.recovery.code_points.Given as goal

abbrev pub invariant-loop-at : goal.invariant-loop-at
invariant-loop-at l = l.points.items ≡ codes_of (take l.at l.sites.entries)

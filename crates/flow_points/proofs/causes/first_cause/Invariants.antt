use Rattle.std.proofs.Common.{◌≡◌, fold, map, take}
use Rattle.flow_points.specs.Causes.{cause_of, pair_cause, sooner}
use Rattle.flow_points.proofs.causes.first_cause.Given as goal

abbrev pub invariant-loop-at : goal.invariant-loop-at
invariant-loop-at l =
    l.first ≡ fold sooner (pair_cause l.sites.entries l.fn.start) (map (λ e. cause_of l.sites.entries e.1) (take l.at l.sites.entries))

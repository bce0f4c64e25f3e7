use Rattle.std.proofs.Common.{sym, ◌∙◌}
use Rattle.flow_points.specs.Refusals.{bad_point}
use Rattle.flow_points.proofs.AllReached.{not_too_many}
use Rattle.flow_points.proofs.CausesFound.{first_is}
use Rattle.flow_points.proofs.Reaching.{ok_always}
use Rattle.flow_points.proofs.Recovered.{no_refusal}
use Rattle.flow_points.proofs.recovery.recover.Goals as goal

pub returns-in-Some-clause-refused : goal.returns-in-Some-clause-refused
returns-in-Some-clause-refused c =
    let all = c.in_ok-sites.ensures.all in
    λ ne. bad_point (not_too_many _ _ _ all) (first_is _ _ _ all c.in-Some.cause (sym c.first_cause.ensures ∙ c.in-Some.is))

pub returns-in-None-clause-accepted : goal.returns-in-None-clause-accepted
returns-in-None-clause-accepted c =
    ok_always _ (no_refusal _ _ _ c.in_ok-sites.ensures.all (sym c.first_cause.ensures ∙ c.in-None.is))

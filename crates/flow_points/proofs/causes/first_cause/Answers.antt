use Rattle.std.proofs.Common.{sym, ◌∙◌}
use Rattle.flow_points.specs.Causes.{cause_of, pair_cause, sooner}
use Rattle.flow_points.proofs.Soonest.{fold_more}
use Rattle.flow_points.specs.declared.code_points.Point.{Point}
use Rattle.flow_points.specs.declared.code_points.Site.{Site}
use Rattle.flow_points.proofs.causes.first_cause.Goals as goal

pub loop-at-preserved : goal.loop-at-preserved
loop-at-preserved c =
    let step = fold_more sooner (pair_cause c.args.sites.now.entries c.args.start)
    (λ (e : Point × Site). cause_of c.args.sites.now.entries e.1) _ c.loop-at.at _ c.entry_at.ensures in
    let inv = c.loop-at.invariant in
    c.sooner-first.ensures ∙ (λ i. sooner (inv i) (c.cause_of.ensures i)) ∙ sym step

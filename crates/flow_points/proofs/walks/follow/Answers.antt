use Rattle.flow_points.proofs.Lists.{all_at}
use Rattle.flow_points.proofs.SiteFacts.{site_flow}
use Rattle.flow_points.specs.Flows.{fetches_of}
use Rattle.flow_points.specs.Sites.{IsSite}
use Rattle.flow_points.specs.declared.code_points.Point.{Point}
use Rattle.flow_points.specs.declared.code_points.Site.{Site}
use Rattle.flow_points.proofs.walks.follow.Goals as goal

pub add_successors-requires-clause-flow : goal.add_successors-requires-clause-flow
add_successors-requires-clause-flow c =
    site_flow _ _ _ _
    (all_at (λ (e : Point × Site). IsSite (fetches_of c.args.image.now) e.0 e.1) _ _ _ c.entry_at.ensures c.requires.sites.sites)
    c.in-Ok.is

use Rattle.std.proofs.Common.{◌-◌, ◌≤◌, length}
use Rattle.flow_points.specs.Flows.{fetches_of}
use Rattle.std.specs.List.{AllWithin}
use Rattle.std.specs.Prelude.{Some}
use Rattle.flow_points.specs.Walks.{most_points, start}
use Rattle.flow_points.specs.Sites.{AreSites, HasSite, HasSuccessors}
use Rattle.flow_points.proofs.walks.reached.Given as goal

abbrev pub invariant-loop-at : goal.invariant-loop-at
invariant-loop-at l =
    record {
      sites : AreSites (fetches_of l.image) l.image.entry l.sites.entries;
      begins : HasSite l.sites.entries (start l.image.entry);
      closed : AllWithin (λ e. HasSuccessors l.sites.entries (Some e)) l.sites.entries 0 l.at;
      within : l.at ≤ length l.sites.entries;
    }

abbrev pub decreases-loop-at : goal.decreases-loop-at
decreases-loop-at l = most_points - l.at

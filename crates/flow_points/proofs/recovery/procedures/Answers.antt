use Rattle.std.proofs.Common.{◌≡◌, nat_eq, ap, ◌∙◌}
use Rattle.std.specs.List.{dedup}
use Rattle.std.proofs.lemmas.List.Filters.{dedup_is}
use Rattle.flow_points.specs.PointLists.{entries_of}
use Rattle.flow_points.proofs.recovery.procedures.Goals as goal

pub returns : goal.returns
returns c =
    let from : c.in_ok-procedures.procedures.items ≡ entries_of c.args.points.now = c.in_ok-procedures.ensures in
    dedup_is nat_eq _ _ c.dedup.ensures.filtered ∙ ap (dedup nat_eq) from

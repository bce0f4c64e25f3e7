use Rattle.std.proofs.Common.{◌≡◌, nat_eq, rules, sym, subst}
use Rattle.std.specs.List.{dedup}
use Rattle.flow_points.specs.Flows.{fetches_of}
use Rattle.flow_points.specs.Causes.{codes_of}
use Rattle.flow_points.specs.PointLists.{ArePoints, FlowPoints, entries_of}
use Rattle.flow_points.proofs.Recovered.{are_points}
use Rattle.flow_points.proofs.recovery.listed.Goals as goal

pub new-requires : goal.new-requires
new-requires c =
    let points : c.from_vec-points.result ≡ codes_of c.sort.new.sites.entries = search rules in
    let procedures : c.from_vec-procedures.result ≡ dedup nat_eq (entries_of c.from_vec-points.result) = search rules in
    record {
      fetches = fetches_of c.args.image.now;
      are = are_points _ _ _ c.requires.all c.requires.good _ c.in_ok-sort.ensures.moved _ _ c.in_ok-sort.ensures.sorted
          c.in_ok-sort.ensures.distinct points procedures;
    }

pub returns-clause-points : goal.returns-clause-points
returns-clause-points c =
    let points : c.from_vec-points.result ≡ codes_of c.sort.new.sites.entries = search rules in
    let procedures : c.from_vec-procedures.result ≡ dedup nat_eq (entries_of c.from_vec-points.result) = search rules in
    subst (λ (ps : FlowPoints). ArePoints (fetches_of c.args.image.now) c.args.image.now.entry ps) (sym c.new.ensures)
    (are_points _ _ _ c.requires.all c.requires.good _ c.in_ok-sort.ensures.moved _ _ c.in_ok-sort.ensures.sorted
    c.in_ok-sort.ensures.distinct points procedures)

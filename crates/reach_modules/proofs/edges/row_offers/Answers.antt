use Rattle.std.proofs.Common.{take, get_or, sym, subst}
use Rattle.row_engine.proofs.ByNode.{found}
use Rattle.std.proofs.lemmas.List.{take_more, take_all}
use Rattle.reach_modules.specs.Offers.{AlongOffers, EdgeOffers}
use Rattle.reach_modules.proofs.Lookups.{edge_below, edge_contained, edge_is}
use Rattle.reach_modules.proofs.Leaving.{along_none, along_more, along_all}
use Rattle.reach_modules.proofs.edges.row_offers.Goals as goal

pub loop-k-init : goal.loop-k-init
loop-k-init c = rw c.new-offers.ensures (along_none c.args.program.now c.args.row.now)

pub bounds-as_slice-k : goal.bounds-as_slice-k
bounds-as_slice-k c =
    rw c.as_slice.ensures (edge_below c.args.program.now c.args.tables.now.out.items c.requires.out c.args.node c.loop-k.k-index c.requires.node c.index.result.now c.as_slice-k-items.result.now
    c.index.ensures c.as_slice-k-items.ensures c.loop-k-test.true)

pub edge_offers-requires-clause-edge : goal.edge_offers-requires-clause-edge
edge_offers-requires-clause-edge c =
    edge_contained c.args.program.now c.args.tables.now.out.items c.requires.out c.args.node c.loop-k.k-index c.requires.node c.index.result.now c.as_slice-k-items.result.now
    c.index.ensures c.as_slice-k-items.ensures c.loop-k-test.true c.as_slice.result.now c.index-as_slice-k.result c.as_slice.ensures c.index-as_slice-k.is

pub loop-k-preserved : goal.loop-k-preserved
loop-k-preserved c =
    let program = c.args.program.now in let v = c.args.row.now in let items = c.as_slice-k-items.result.now in let i = c.loop-k.k-index in
    let e = edge_is program c.args.tables.now.out.items c.requires.out c.args.node i c.requires.node c.index.result.now items c.index.ensures c.as_slice-k-items.ensures c.loop-k-test.true
    c.as_slice.result.now c.index-as_slice-k.result c.as_slice.ensures c.index-as_slice-k.is in
    rw (take_more items i 0 c.loop-k-test.true)
    (along_more program v (take i items) (get_or items i 0) c.loop-k.offers c.in_ok-more.more c.append.new.self c.loop-k.invariant
    (subst (λ x. EdgeOffers program x v c.in_ok-more.more) (sym e) c.in_ok-more.ensures) c.in-Ok.ensures)

pub returns : goal.returns
returns c =
    let program = c.args.program.now in let v = c.args.row.now in let items = c.as_slice-k-items.result.now in
    along_all program v c.args.node c.args.tables.now.out.items items c.loop-k.offers c.requires.out
    (found c.args.tables.now.out.items c.args.node program.nodes c.index.result.now items c.requires.node c.requires.out.each c.index.ensures c.as_slice-k-items.ensures)
    (subst (λ ks. AlongOffers program ks v c.loop-k.offers) (take_all c.loop-k.k-index items c.loop-k-test.false) c.loop-k.invariant)

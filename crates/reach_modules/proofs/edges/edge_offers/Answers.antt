use Rattle.std.proofs.Common.{refl, arith}
use Rattle.row_images.proofs.Laws.{images_span}
use Rattle.reach_modules.proofs.Lookups.{assigns_placed, before_placed}
use Rattle.reach_modules.proofs.Along.{edge_steps, edge_calls}
use Rattle.reach_modules.proofs.edges.edge_offers.Goals as goal

pub images-requires : goal.images-requires
images-requires c =
    let placed = assigns_placed c.args.program.now c.requires.formed c.args.edge.now c.in-Do.assigns c.as_slice.result.now c.requires.edge c.in-Do.is c.as_slice.ensures in
    (omega arith, (refl, placed))

pub images-requires-in-Call : goal.images-requires-in-Call
images-requires-in-Call c =
    let placed = before_placed c.args.program.now c.requires.formed c.args.edge.now c.in-Call.callee c.in-Call.before c.as_slice-in-Call.result.now c.requires.edge c.in-Call.is c.as_slice-in-Call.ensures in
    (omega arith, (refl, placed))

pub returns-in_ok-offer_all-in-Do : goal.returns-in_ok-offer_all-in-Do
returns-in_ok-offer_all-in-Do c =
    edge_steps c.args.program.now c.requires.formed c.args.edge.now c.requires.edge c.args.row.now c.new-offers.result c.new-offers.ensures c.in-Do.assigns c.as_slice.result.now
    c.in_ok-rows-in-Do.rows c.as_slice-in-Do.result.now c.offer_all.new.offers c.in-Do.is c.as_slice.ensures
    (images_span c.as_slice.result.now c.args.row.now c.in_ok-rows-in-Do.rows c.in_ok-rows-in-Do.ensures.exact) c.as_slice-in-Do.ensures c.in_ok-offer_all-in-Do.ensures

pub returns-in_ok-offer_all-in-Call-2 : goal.returns-in_ok-offer_all-in-Call-2
returns-in_ok-offer_all-in-Call-2 c =
    edge_calls c.args.program.now c.requires.formed c.args.edge.now c.requires.edge c.args.row.now c.new-offers.result c.new-offers.ensures c.in-Call.callee c.in-Call.before c.as_slice-in-Call.result.now
    c.in_ok-rows-in-Call.rows c.as_slice-in-Call-2.result.now c.as_slice-in-Call-3.result.now c.in_ok-over-in-Call.over c.in_ok-into-in-Call.into c.as_slice-in-Call-5.result.now c.as_slice-in-Call-6.result.now
    _ c.offer_all-in-Call.new.offers c.offer_all-in-Call-2.new.offers c.as_slice-in-Call-4.result.now _
    c.in-Call.is c.as_slice-in-Call.ensures
    (images_span c.as_slice-in-Call.result.now c.args.row.now c.in_ok-rows-in-Call.rows c.in_ok-rows-in-Call.ensures.exact) c.as_slice-in-Call-2.ensures c.in_ok-over-in-Call.ensures c.as_slice-in-Call-3.ensures c.in_ok-into-in-Call.ensures
    c.as_slice-in-Call-5.ensures c.as_slice-in-Call-6.ensures c.as_slice-in-Call-4.ensures refl c.in_ok-offer_all-in-Call.ensures c.in_ok-offer_all-in-Call-2.ensures

use Rattle.std.proofs.Common.{rules, ap, sym, subst, ◌∙◌, arith}
use Rattle.affine_prog.specs.Spans.{IsStateAt, AreReached}
use Rattle.row_engine.specs.States.{row_count}
use Rattle.row_engine.proofs.Starting.{first_is, first_sound, first_queued, first_marked, first_nodes, first_leading, first_bounded, first_counted}
use Rattle.reach_modules.proofs.Lookups.{entry_at}
use Rattle.reach_modules.proofs.Starting.{begun, entry_inside}
use Rattle.reach_modules.proofs.Sounding.{states_are_rows}
use Rattle.reach_modules.proofs.Bounding.{few_used}
use Rattle.reach_modules.proofs.Ending.{reached_at_end}
use Rattle.reach_modules.proofs.solve.solve.Goals as goal

pub offer-requires : goal.offer-requires
offer-requires g c =
    let p = c.args.program.now in
    (search rules, (search rules, entry_inside p c.requires.formed c.in_ok-nodes.nodes c.in_ok-nodes.ensures _ (entry_at p c.requires.formed p.start c.as_slice.result.now _ c.requires.formed.start c.as_slice.ensures)))

pub close-requires : goal.close-requires
close-requires g c =
    let p = c.args.program.now in let are = states_are_rows p c.requires.formed in
    let o = begun p c.requires.formed c.in_ok-firsts.firsts c.as_slice-2.result.now c.in_ok-firsts.ensures c.as_slice-2.ensures _ (entry_at p c.requires.formed p.start c.as_slice.result.now _ c.requires.formed.start c.as_slice.ensures)
    c.in_ok-nodes.nodes c.in_ok-nodes.ensures c.offer.new.self c.args.steps.now c.offer.new.steps c.in_ok-offer.ensures in
    let is = first_is 17 p.nodes (IsStateAt p) are c.in_ok-nodes.nodes c.in_ok-nodes.ensures c.offer.new.self c.args.steps.now c.offer.new.steps o.grows o.queues in
    let sound = first_sound 17 p.nodes (IsStateAt p) are c.in_ok-nodes.nodes c.in_ok-nodes.ensures c.offer.new.self c.args.steps.now c.offer.new.steps o.grows in
    let queued = first_queued 17 p.nodes (IsStateAt p) are c.in_ok-nodes.nodes c.in_ok-nodes.ensures c.offer.new.self c.args.steps.now c.offer.new.steps o.grows o.queues in
    let marked = first_marked 17 p.nodes (IsStateAt p) are c.in_ok-nodes.nodes c.in_ok-nodes.ensures c.offer.new.self c.args.steps.now c.offer.new.steps o.grows in
    (search rules, (record { formed = c.requires.formed; places_are = c.requires.places; out_are = c.in_ok-out.ensures }, (are, (is, (sound, (queued, marked))))))

pub returns-in_err-offer-clause-never_falls : goal.returns-in_err-offer-clause-never_falls
returns-in_err-offer-clause-never_falls g c =
    c.offer.ensures.grows.rises

pub returns-in_err-offer-clause-counts_no_more : goal.returns-in_err-offer-clause-counts_no_more
returns-in_err-offer-clause-counts_no_more g c =
    let p = c.args.program.now in let are = states_are_rows p c.requires.formed in
    let o = begun p c.requires.formed c.in_ok-firsts.firsts c.as_slice-2.result.now c.in_ok-firsts.ensures c.as_slice-2.ensures _ (entry_at p c.requires.formed p.start c.as_slice.result.now _ c.requires.formed.start c.as_slice.ensures)
    c.in_ok-nodes.nodes c.in_ok-nodes.ensures c.offer.new.self c.args.steps.now c.offer.new.steps c.offer.ensures in
    let f = first_bounded 17 p.nodes (IsStateAt p) are c.in_ok-nodes.nodes c.in_ok-nodes.ensures c.offer.new.self c.args.steps.now c.offer.new.steps o.grows in
    let n = few_used p c.requires.formed c.offer.new.self (first_leading 17 p.nodes (IsStateAt p) are c.in_ok-nodes.nodes c.in_ok-nodes.ensures c.offer.new.self c.args.steps.now c.offer.new.steps o.grows) (first_sound 17 p.nodes (IsStateAt p) are c.in_ok-nodes.nodes c.in_ok-nodes.ensures c.offer.new.self c.args.steps.now c.offer.new.steps o.grows) (first_nodes 17 p.nodes (IsStateAt p) are c.in_ok-nodes.nodes c.in_ok-nodes.ensures c.offer.new.self c.args.steps.now c.offer.new.steps o.grows) in omega arith

pub returns-in_err-close-clause-never_falls : goal.returns-in_err-close-clause-never_falls
returns-in_err-close-clause-never_falls g c =
    let a = c.in_ok-offer.ensures.grows.rises in let b = c.close.ensures.rises in omega arith

pub returns-in_err-close-clause-counts_no_more : goal.returns-in_err-close-clause-counts_no_more
returns-in_err-close-clause-counts_no_more g c =
    let p = c.args.program.now in let are = states_are_rows p c.requires.formed in
    let o = begun p c.requires.formed c.in_ok-firsts.firsts c.as_slice-2.result.now c.in_ok-firsts.ensures c.as_slice-2.ensures _ (entry_at p c.requires.formed p.start c.as_slice.result.now _ c.requires.formed.start c.as_slice.ensures)
    c.in_ok-nodes.nodes c.in_ok-nodes.ensures c.offer.new.self c.args.steps.now c.offer.new.steps c.in_ok-offer.ensures in
    let f = first_bounded 17 p.nodes (IsStateAt p) are c.in_ok-nodes.nodes c.in_ok-nodes.ensures c.offer.new.self c.args.steps.now c.offer.new.steps o.grows in
    let e = c.close.ensures in
    let n = few_used p c.requires.formed c.close.new.nodes e.leading e.sound (e.nodes ∙ first_nodes 17 p.nodes (IsStateAt p) are c.in_ok-nodes.nodes c.in_ok-nodes.ensures c.offer.new.self c.args.steps.now c.offer.new.steps o.grows) in let b = e.bounded in omega arith

pub returns-clause-exact : goal.returns-clause-exact
returns-clause-exact g c =
    let p = c.args.program.now in let are = states_are_rows p c.requires.formed in
    let o = begun p c.requires.formed c.in_ok-firsts.firsts c.as_slice-2.result.now c.in_ok-firsts.ensures c.as_slice-2.ensures _ (entry_at p c.requires.formed p.start c.as_slice.result.now _ c.requires.formed.start c.as_slice.ensures)
    c.in_ok-nodes.nodes c.in_ok-nodes.ensures c.offer.new.self c.args.steps.now c.offer.new.steps c.in_ok-offer.ensures in
    let e = c.in_ok-close.ensures in
    subst (AreReached p) (sym c.into_bases.ensures)
    (reached_at_end p c.requires.formed c.close.new.nodes (e.nodes ∙ first_nodes 17 p.nodes (IsStateAt p) are c.in_ok-nodes.nodes c.in_ok-nodes.ensures c.offer.new.self c.args.steps.now c.offer.new.steps o.grows) e.leading e.sound (λ v f. e.grown _ v (o.pushes v f)) e.closed)

pub returns-clause-never_falls : goal.returns-clause-never_falls
returns-clause-never_falls g c =
    let a = c.in_ok-offer.ensures.grows.rises in let b = c.in_ok-close.ensures.rises in omega arith

pub returns-clause-counts_no_more : goal.returns-clause-counts_no_more
returns-clause-counts_no_more g c =
    let p = c.args.program.now in let are = states_are_rows p c.requires.formed in
    let o = begun p c.requires.formed c.in_ok-firsts.firsts c.as_slice-2.result.now c.in_ok-firsts.ensures c.as_slice-2.ensures _ (entry_at p c.requires.formed p.start c.as_slice.result.now _ c.requires.formed.start c.as_slice.ensures)
    c.in_ok-nodes.nodes c.in_ok-nodes.ensures c.offer.new.self c.args.steps.now c.offer.new.steps c.in_ok-offer.ensures in
    let f = first_bounded 17 p.nodes (IsStateAt p) are c.in_ok-nodes.nodes c.in_ok-nodes.ensures c.offer.new.self c.args.steps.now c.offer.new.steps o.grows in
    let e = c.in_ok-close.ensures in
    let n = few_used p c.requires.formed c.close.new.nodes e.leading e.sound (e.nodes ∙ first_nodes 17 p.nodes (IsStateAt p) are c.in_ok-nodes.nodes c.in_ok-nodes.ensures c.offer.new.self c.args.steps.now c.offer.new.steps o.grows) in let b = e.bounded in omega arith

pub returns-clause-counts_rows : goal.returns-clause-counts_rows
returns-clause-counts_rows g c =
    let p = c.args.program.now in let are = states_are_rows p c.requires.formed in
    let o = begun p c.requires.formed c.in_ok-firsts.firsts c.as_slice-2.result.now c.in_ok-firsts.ensures c.as_slice-2.ensures _ (entry_at p c.requires.formed p.start c.as_slice.result.now _ c.requires.formed.start c.as_slice.ensures)
    c.in_ok-nodes.nodes c.in_ok-nodes.ensures c.offer.new.self c.args.steps.now c.offer.new.steps c.in_ok-offer.ensures in
    let f = first_counted 17 p.nodes (IsStateAt p) are c.in_ok-nodes.nodes c.in_ok-nodes.ensures c.offer.new.self c.args.steps.now c.offer.new.steps o.grows o.queues in
    let b = c.in_ok-close.ensures.counted in let i = ap row_count c.into_bases.ensures in omega arith

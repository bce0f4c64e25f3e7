use Rattle.std.proofs.Common.{[], ◌+◌, map, take, subst, sym}
use Rattle.std.proofs.lemmas.List.{take_all}
use Rattle.map_modules.specs.Matrices.{product}
use Rattle.row_engine.specs.Growth.{Offered}
use Rattle.row_engine.proofs.Members.{nothing_in}
use Rattle.row_engine.proofs.InTurn.{taken_none, turn_takes, turn_fails, all_taken}
use Rattle.call_summaries.specs.Offers.{Called}
use Rattle.call_summaries.proofs.InTurn.{called_less, called_either, called_rows}
use Rattle.call_summaries.proofs.take.take_calls.Goals as goal

pub loop-callee-init : goal.loop-callee-init
loop-callee-init g c =
    let r = c.args.sets.0 in let s = c.args.sets.1 in
    taken_none 289 (Called r s c.args.to c.args.callees.now c.args.images.now) (Called r s c.args.to [] c.args.images.now) c.args.nodes.now c.args.steps.now (λ u m h. nothing_in h.callee h.of_callees)

pub loop-callee-preserved : goal.loop-callee-preserved
loop-callee-preserved g c =
    let r = c.args.sets.0 in let s = c.args.sets.1 in let to = c.args.to in let callees = c.args.callees.now in let images = c.args.images.now in
    let i = c.loop-callee.callee-index in let x = c.callee-item.result in let e = c.extend_call-extended.result in
    turn_takes 289 (Called r s to callees images) (Called r s to (take i callees) images) (Offered 289 to (map (λ y. product e y) images)) (Called r s to (take (i + 1) callees) images)
    c.args.nodes.now c.loop-callee.nodes c.take_products.new.nodes c.args.steps.now c.loop-callee.steps c.take_products.new.steps
    (called_rows r s to callees images) c.known.ensures.leading (called_less r s to callees images i x e c.loop-callee-test.true c.callee-item.is c.extend_call-extended.ensures.linear)
    c.loop-callee.invariant (called_either r s to callees images i x e c.loop-callee-test.true c.callee-item.is c.extend_call-extended.ensures.linear) _ c.in_ok-take_products.ensures

pub returns-in_err-take_products : goal.returns-in_err-take_products
returns-in_err-take_products g c =
    let r = c.args.sets.0 in let s = c.args.sets.1 in let to = c.args.to in let callees = c.args.callees.now in let images = c.args.images.now in
    let i = c.loop-callee.callee-index in let x = c.callee-item.result in let e = c.extend_call-extended.result in
    turn_fails 289 (Called r s to callees images) (Called r s to (take i callees) images) (Offered 289 to (map (λ y. product e y) images)) (Called r s to (take (i + 1) callees) images)
    c.args.nodes.now c.loop-callee.nodes c.take_products.new.nodes c.args.steps.now c.loop-callee.steps c.take_products.new.steps
    (called_rows r s to callees images) c.known.ensures.leading (called_less r s to callees images i x e c.loop-callee-test.true c.callee-item.is c.extend_call-extended.ensures.linear)
    c.loop-callee.invariant c.take_products.result c.from_residual.result c.from_residual.ensures.0 c.take_products.ensures

pub returns : goal.returns
returns g c =
    let r = c.args.sets.0 in let s = c.args.sets.1 in let to = c.args.to in let callees = c.args.callees.now in let images = c.args.images.now in let i = c.loop-callee.callee-index in
    all_taken _ 289 (Called r s to callees images) (Called r s to (take i callees) images) c.args.nodes.now c.loop-callee.nodes c.args.steps.now c.loop-callee.steps
    (λ u m h. subst (λ l. Called r s to l images u m) (sym (take_all i callees c.loop-callee-test.false)) h) c.loop-callee.invariant

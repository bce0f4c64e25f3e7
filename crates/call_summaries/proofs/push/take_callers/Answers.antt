use Rattle.std.proofs.Common.{[], ◌+◌, ◌∙◌, map, take, subst, sym}
use Rattle.std.proofs.lemmas.List.{take_all}
use Rattle.map_modules.specs.Matrices.{product}
use Rattle.row_engine.specs.Growth.{Offered}
use Rattle.row_engine.proofs.Members.{nothing_in}
use Rattle.row_engine.proofs.InTurn.{taken_none, turn_takes, turn_fails, taken_fails, all_taken}
use Rattle.call_summaries.specs.Offers.{Returned}
use Rattle.call_summaries.proofs.InTurn.{returned_less, returned_either, returned_rows}
use Rattle.call_summaries.proofs.push.take_callers.Goals as goal

pub loop-caller-init : goal.loop-caller-init
loop-caller-init g c =
    let b = c.args.before.now in let e = c.args.extended.now in
    taken_none 289 (Returned b e c.args.to c.args.callers.now) (Returned b e c.args.to []) c.args.nodes.now c.args.steps.now (λ u m h. nothing_in h.caller h.of_callers)

pub loop-caller-preserved : goal.loop-caller-preserved
loop-caller-preserved g c =
    let b = c.args.before.now in let e = c.args.extended.now in let to = c.args.to in let callers = c.args.callers.now in let images = c.as_slice.result.now in
    let i = c.loop-caller.caller-index in let x = c.caller-item.result in
    turn_takes 289 (Returned b e to callers) (Returned b e to (take i callers)) (Offered 289 to (map (λ y. product e y) images)) (Returned b e to (take (i + 1) callers))
    c.args.nodes.now c.loop-caller.nodes c.take_products.new.nodes c.args.steps.now c.loop-caller.steps c.take_products.new.steps
    (returned_rows b e to callers) c.known.ensures.leading (returned_less b e to callers images i x c.loop-caller-test.true c.caller-item.is (c.as_slice.ensures ∙ c.in_ok-images.ensures))
    c.loop-caller.invariant (returned_either b e to callers images i x c.loop-caller-test.true c.caller-item.is (c.as_slice.ensures ∙ c.in_ok-images.ensures)) _ c.in_ok-take_products.ensures

pub returns-in_err-images : goal.returns-in_err-images
returns-in_err-images g c = taken_fails c.loop-caller.invariant c.from_residual.result c.from_residual.ensures.0

pub returns-in_err-take_products : goal.returns-in_err-take_products
returns-in_err-take_products g c =
    let b = c.args.before.now in let e = c.args.extended.now in let to = c.args.to in let callers = c.args.callers.now in let images = c.as_slice.result.now in
    let i = c.loop-caller.caller-index in let x = c.caller-item.result in
    turn_fails 289 (Returned b e to callers) (Returned b e to (take i callers)) (Offered 289 to (map (λ y. product e y) images)) (Returned b e to (take (i + 1) callers))
    c.args.nodes.now c.loop-caller.nodes c.take_products.new.nodes c.args.steps.now c.loop-caller.steps c.take_products.new.steps
    (returned_rows b e to callers) c.known.ensures.leading (returned_less b e to callers images i x c.loop-caller-test.true c.caller-item.is (c.as_slice.ensures ∙ c.in_ok-images.ensures))
    c.loop-caller.invariant c.take_products.result c.from_residual-in_err-take_products.result c.from_residual-in_err-take_products.ensures.0 c.take_products.ensures

pub returns : goal.returns
returns g c =
    let b = c.args.before.now in let e = c.args.extended.now in let to = c.args.to in let callers = c.args.callers.now in let i = c.loop-caller.caller-index in
    all_taken _ 289 (Returned b e to callers) (Returned b e to (take i callers)) c.args.nodes.now c.loop-caller.nodes c.args.steps.now c.loop-caller.steps
    (λ u m h. subst (λ l. Returned b e to l u m) (sym (take_all i callers c.loop-caller-test.false)) h) c.loop-caller.invariant

use Rattle.std.proofs.Common.{List, refl, rules, arith, ap, ◌∙◌, sym, subst}
use Rattle.affine_prog.specs.declared.Assign.{Assign}
use Rattle.affine_prog.specs.Spans.{IsMapTo}
use Rattle.row_images.specs.Images.{images_of, IsPrepared}
use Rattle.affine_prog.proofs.Lemmas.{ArePlaced}
use Rattle.row_engine.specs.States.{rows_at}
use Rattle.row_engine.proofs.Pushing.{grown_by, grown_not}
use Rattle.call_summaries.proofs.ByNumber.{do_placed, before_placed}
use Rattle.call_summaries.proofs.Soundness.{sound_constant}
use Rattle.call_summaries.proofs.Pushing.{step_less, step_pushes, call_less, call_pushes}
use Rattle.call_summaries.proofs.push.push_forward.Goals as goal

pub images_along-requires : goal.images_along-requires
images_along-requires g c =
    let placed = subst ArePlaced (sym c.as_slice.ensures) (do_placed c.args.program.now c.requires.formed c.args.edge.now c.requires.edge c.in-Do.assigns c.in-Do.is) in
    let prepared : IsPrepared c.as_slice.result.now c.args.prepared.now = search rules in
    let constant = (sound_constant c.args.program.now c.requires.formed c.args.edge.now.from c.args.row.now c.requires.own).constant in
    (omega arith, (refl, (placed, (prepared, constant))))

pub returns-in_err-images-in-Do : goal.returns-in_err-images-in-Do
returns-in_err-images-in-Do g c = grown_not 289 (IsMapTo c.args.program.now) c.args.nodes.now c.args.steps.now c.from_residual.result c.from_residual.ensures.0

pub images_along-requires-in-Call : goal.images_along-requires-in-Call
images_along-requires-in-Call g c =
    let placed = subst ArePlaced (sym c.as_slice-in-Call.ensures) (before_placed c.args.program.now c.requires.formed c.args.edge.now c.requires.edge c.in-Call.callee c.in-Call.before c.in-Call.is) in
    let prepared : IsPrepared c.as_slice-in-Call.result.now c.args.prepared.now = search rules in
    let constant = (sound_constant c.args.program.now c.requires.formed c.args.edge.now.from c.args.row.now c.requires.own).constant in
    (omega arith, (refl, (placed, (prepared, constant))))

pub returns-in_err-images-in-Call : goal.returns-in_err-images-in-Call
returns-in_err-images-in-Call g c = grown_not 289 (IsMapTo c.args.program.now) c.args.nodes.now c.args.steps.now c.from_residual-in_err-images-in-Call.result c.from_residual-in_err-images-in-Call.ensures.0

pub returns-in_err-callees-in-Call : goal.returns-in_err-callees-in-Call
returns-in_err-callees-in-Call g c = grown_not 289 (IsMapTo c.args.program.now) c.args.nodes.now c.args.steps.now c.from_residual-in_err-callees-in-Call.result c.from_residual-in_err-callees-in-Call.ensures.0

pub returns-in_ok-images-in-Do : goal.returns-in_ok-images-in-Do
returns-in_ok-images-in-Do g c =
    let images_are = c.as_slice-in-Do.ensures ∙ c.in_ok-images-in-Do.ensures ∙ ap (λ (a : List Assign). images_of 17 a c.args.row.now) c.as_slice.ensures in
    grown_by
    (step_less c.args.program.now c.requires.formed c.args.edge.now c.requires.edge c.in-Do.assigns c.in-Do.is c.args.row.now c.requires.own c.as_slice-in-Do.result.now images_are)
    (step_pushes c.args.program.now c.requires.formed c.args.edge.now c.requires.edge c.in-Do.assigns c.in-Do.is c.args.row.now c.requires.own c.as_slice-in-Do.result.now images_are
    c.args.nodes.now c.offer.new.self (c.offer.ensures.grows.leading c.known.ensures.leading))
    c.offer.ensures

pub returns-in_ok-callees-in-Call : goal.returns-in_ok-callees-in-Call
returns-in_ok-callees-in-Call g c =
    let callees_are = c.as_slice-in-Call-2.ensures ∙ c.in_ok-callees-in-Call.ensures ∙ ap (rows_at c.args.nodes.now) c.exit_of.ensures.exit in
    let images_are = c.as_slice-in-Call-3.ensures ∙ c.in_ok-images-in-Call.ensures ∙ ap (λ (a : List Assign). images_of 17 a c.args.row.now) c.as_slice-in-Call.ensures in
    grown_by
    (call_less c.args.program.now c.requires.formed c.args.edge.now c.requires.edge c.in-Call.callee c.in-Call.before c.in-Call.is c.args.nodes.now c.known.ensures.leading c.requires.sound c.args.row.now c.requires.own
    c.sets_at-sets.result.0 c.sets_at-sets.result.1 c.as_slice-in-Call-2.result.now c.as_slice-in-Call-3.result.now c.sets_at-sets.ensures.registers c.sets_at-sets.ensures.slots callees_are images_are)
    (call_pushes c.args.program.now c.requires.formed c.args.edge.now c.requires.edge c.in-Call.callee c.in-Call.before c.in-Call.is c.args.nodes.now c.known.ensures.leading c.requires.sound c.args.row.now c.requires.own
    c.sets_at-sets.result.0 c.sets_at-sets.result.1 c.as_slice-in-Call-2.result.now c.as_slice-in-Call-3.result.now c.sets_at-sets.ensures.registers c.sets_at-sets.ensures.slots callees_are images_are
    c.take_calls.new.nodes (c.take_calls.ensures.grows.leading c.known.ensures.leading))
    c.take_calls.ensures

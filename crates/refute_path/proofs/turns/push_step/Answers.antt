use Rattle.std.proofs.Common.{get_or, ap, sym, ◌∙◌}
use Rattle.affine_prog.specs.declared.Kind.TheVariants.{Do}
use Rattle.refute_path.proofs.Pushing.{on_ok}
use Rattle.refute_path.proofs.Gaining.{got_slice, got_default, gains_none, no_step, call_no_step, goes_along, step_gained}
use Rattle.refute_path.specs.Gains.{IsStepOf}
use Rattle.refute_path.proofs.turns.push_step.Goals as goal

pub returns-then-edge-as_slice : goal.returns-then-edge-as_slice
returns-then-edge-as_slice g c =
    let p = c.args.program.now in let items = c.args.items.now in let x = get_or c.as_slice-2.result.now c.args.place c.index-as_slice-place.result in let y = c.index-as_slice-e.result in
    gains_none p items c.args.bases.now.items (IsStepOf p items c.args.place c.args.e) c.requires.arena
    (no_step p items c.args.place c.args.e x y (got_default c.as_slice-2.result.now items c.args.place c.index-as_slice-place.result c.as_slice-2.ensures c.requires.place)
    (got_slice c.as_slice.result.now p.edges c.args.e y c.as_slice.ensures c.requires.edge c.index-as_slice-e.is) c.if-edge-as_slice.true)

pub push_choices-requires-clause-along : goal.push_choices-requires-clause-along
push_choices-requires-clause-along g c =
    let p = c.args.program.now in let items = c.args.items.now in let x = get_or c.as_slice-2.result.now c.args.place c.index-as_slice-place.result in let y = c.index-as_slice-e.result in
    goes_along p items c.args.place c.args.e x y (got_default c.as_slice-2.result.now items c.args.place c.index-as_slice-place.result c.as_slice-2.ensures c.requires.place)
    (got_slice c.as_slice.result.now p.edges c.args.e y c.as_slice.ensures c.requires.edge c.index-as_slice-e.is) c.as_slice-in-Do.result.now (c.in-Do.is ∙ ap Do (sym c.as_slice-in-Do.ensures))
    c.if-edge-as_slice.false

pub returns-in-Do : goal.returns-in-Do
returns-in-Do g c =
    let p = c.args.program.now in let items = c.args.items.now in let x = get_or c.as_slice-2.result.now c.args.place c.index-as_slice-place.result in let y = c.index-as_slice-e.result in
    on_ok c.push_choices.result
    (step_gained p items c.args.place c.args.e x y (got_default c.as_slice-2.result.now items c.args.place c.index-as_slice-place.result c.as_slice-2.ensures c.requires.place)
    (got_slice c.as_slice.result.now p.edges c.args.e y c.as_slice.ensures c.requires.edge c.index-as_slice-e.is) c.as_slice-in-Do.result.now (c.in-Do.is ∙ ap Do (sym c.as_slice-in-Do.ensures))
    c.push_choices.new.items c.args.bases.now.items c.push_choices.new.bases.items) c.push_choices.ensures

pub returns-in-Call : goal.returns-in-Call
returns-in-Call g c =
    let p = c.args.program.now in let items = c.args.items.now in let x = get_or c.as_slice-2.result.now c.args.place c.index-as_slice-place.result in let y = c.index-as_slice-e.result in
    gains_none p items c.args.bases.now.items (IsStepOf p items c.args.place c.args.e) c.requires.arena
    (call_no_step p items c.args.place c.args.e x y (got_default c.as_slice-2.result.now items c.args.place c.index-as_slice-place.result c.as_slice-2.ensures c.requires.place)
    (got_slice c.as_slice.result.now p.edges c.args.e y c.as_slice.ensures c.requires.edge c.index-as_slice-e.is) c.in-Call.callee c.in-Call.before c.in-Call.is)

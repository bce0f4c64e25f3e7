use Rattle.std.proofs.Common.{sym, ◌∙◌}
use Rattle.map_modules.specs.Matrices.{apply}
use Rattle.affine_prog.specs.Assignments.{unknown_count, matrix_of}
use Rattle.refute_path.specs.Tags.{words_by}
use Rattle.refute_path.specs.EntryArenas.{IsJust}
use Rattle.refute_path.proofs.Pushing.{on_ok}
use Rattle.refute_path.proofs.Admitting.{admits_less}
use Rattle.refute_path.proofs.Entered.{callee_is_proc, before_low, came_so, image_is}
use Rattle.refute_path.proofs.enters.enter_by.Goals as goal

pub step_under-map-requires : goal.step_under-map-requires
step_under-map-requires g c = before_low c.args.program.now c.requires.formed c.args.items.now c.args.entries.now c.args.outer c.args.level c.args.edge c.args.proc c.args.inner.now c.args.before.now c.requires.along

pub offer_entry-requires-clause-proc : goal.offer_entry-requires-clause-proc
offer_entry-requires-clause-proc g c =
    callee_is_proc c.args.program.now c.requires.formed c.args.items.now c.args.entries.now c.args.outer c.args.level c.args.edge c.args.proc c.args.inner.now c.args.before.now c.requires.along

pub offer_entry-requires-clause-came : goal.offer_entry-requires-clause-came
offer_entry-requires-clause-came g c =
    came_so c.args.program.now c.requires.formed c.args.items.now c.args.entries.now c.args.outer c.args.level c.args.edge c.args.proc c.args.inner.now c.args.before.now c.requires.along c.args.raised c.apply-state.result
    (image_is c.args.before.now c.args.raised c.identity.result c.step_under-map.result c.args.inner.now c.apply-state.result c.identity.ensures c.step_under-map.ensures c.apply-state.ensures)

pub returns : goal.returns
returns g c =
    let b = c.args.before.now in
    on_ok c.offer_entry.result
    (admits_less c.args.program.now c.args.items.now c.args.entries.now c.args.bases.now.items c.offer_entry.new.entries c.offer_entry.new.bases.items
    (IsJust c.args.proc c.apply-state.result) (IsJust c.args.proc (apply (matrix_of b (words_by (unknown_count b) c.args.raised)) c.args.inner.now))
    (λ q s h. (h.0, h.1 ∙ sym (image_is b c.args.raised c.identity.result c.step_under-map.result c.args.inner.now c.apply-state.result c.identity.ensures c.step_under-map.ensures c.apply-state.ensures))))
    c.offer_entry.ensures

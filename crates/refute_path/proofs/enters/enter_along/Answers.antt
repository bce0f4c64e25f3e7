use Rattle.std.proofs.Common.{[], None, get_or, ap, sym, ◌∙◌}
use Rattle.affine_prog.specs.Assignments.{unknown_count}
use Rattle.affine_prog.specs.declared.Kind.TheVariants.{Call}
use Rattle.refute_path.specs.declared.Came.TheVariants.{Start}
use Rattle.refute_path.specs.declared.Entry.{Entry}
use Rattle.refute_path.specs.EntryArenas.{IsEntering, IsChosen}
use Rattle.refute_path.proofs.Traced.{found_at}
use Rattle.refute_path.proofs.Pushing.{on_ok}
use Rattle.refute_path.proofs.Gaining.{got_slice}
use Rattle.refute_path.proofs.Admitting.{admits_none, admits_less}
use Rattle.refute_path.proofs.Entered.{inner_is, not_from, no_entering, not_its_proc, enters_along, entering_chosen}
use Rattle.refute_path.proofs.enters.enter_along.Goals as goal

abbrev none : Entry
none = record { proc = 0; state = []; came = Start None }

pub returns-then-edge-items : goal.returns-then-edge-items
returns-then-edge-items g c =
    let p = c.args.program.now in let items = c.args.items.now in let entries = c.args.entries.now in
    let x = get_or items c.args.level c.index-items-level.result in let y = c.index-as_slice-e.result in
    let at = found_at items c.args.level c.index-items-level.result c.requires.level in
    let along = got_slice c.as_slice.result.now p.edges c.args.e y c.as_slice.ensures c.requires.edge c.index-as_slice-e.is in
    let d = get_or entries c.args.outer none in
    admits_none p items entries c.args.bases.now.items (IsEntering p items entries c.args.outer c.args.level c.args.e) c.requires.arena
    (not_from p items entries c.args.outer c.args.level c.args.e x y d at along (found_at entries c.args.outer none c.requires.outer) c.if-edge-items.true)

pub returns-in-Do : goal.returns-in-Do
returns-in-Do g c =
    let p = c.args.program.now in let items = c.args.items.now in let entries = c.args.entries.now in
    let x = get_or items c.args.level c.index-items-level.result in let y = c.index-as_slice-e.result in
    let at = found_at items c.args.level c.index-items-level.result c.requires.level in
    let along = got_slice c.as_slice.result.now p.edges c.args.e y c.as_slice.ensures c.requires.edge c.index-as_slice-e.is in
    let d = get_or entries c.args.outer none in
    admits_none p items entries c.args.bases.now.items (IsEntering p items entries c.args.outer c.args.level c.args.e) c.requires.arena
    (no_entering p items entries c.args.outer c.args.level c.args.e x y d at along (found_at entries c.args.outer none c.requires.outer) c.in-Do.field-0 c.in-Do.is)

pub returns-then-proc_of-as_slice : goal.returns-then-proc_of-as_slice
returns-then-proc_of-as_slice g c =
    let p = c.args.program.now in let items = c.args.items.now in let entries = c.args.entries.now in
    let x = get_or items c.args.level c.index-items-level.result in let y = c.index-as_slice-e.result in
    let at = found_at items c.args.level c.index-items-level.result c.requires.level in
    let along = got_slice c.as_slice.result.now p.edges c.args.e y c.as_slice.ensures c.requires.edge c.index-as_slice-e.is in
    let z = get_or entries c.args.outer c.index-as_slice-outer.result in
    let there = found_at entries c.args.outer c.index-as_slice-outer.result c.requires.outer in
    admits_none p items entries c.args.bases.now.items (IsEntering p items entries c.args.outer c.args.level c.args.e) c.requires.arena
    (not_its_proc p items entries c.args.outer c.args.level c.args.e x y z at along there
    (λ same. c.if-proc_of-as_slice.true (c.proc_of.ensures ∙ same ∙ sym (ap (λ l. (get_or l c.args.outer c.index-as_slice-outer.result).proc) c.as_slice-in-Call.ensures))))

pub enter_choices-requires-clause-along : goal.enter_choices-requires-clause-along
enter_choices-requires-clause-along g c =
    let p = c.args.program.now in let items = c.args.items.now in let entries = c.args.entries.now in
    let x = get_or items c.args.level c.index-items-level.result in let y = c.index-as_slice-e.result in
    let at = found_at items c.args.level c.index-items-level.result c.requires.level in
    let along = got_slice c.as_slice.result.now p.edges c.args.e y c.as_slice.ensures c.requires.edge c.index-as_slice-e.is in
    let z = get_or entries c.args.outer c.index-as_slice-outer.result in
    let there = found_at entries c.args.outer c.index-as_slice-outer.result c.requires.outer in
    let inner = inner_is items entries c.args.level c.args.outer c.index-items-level.result c.index-items-level-in-Call.result c.index-as_slice-outer.result c.index-as_slice-outer-in-Call.result
    c.as_slice-in-Call-2.result.now c.apply-inner.result c.requires.level c.requires.outer c.as_slice-in-Call-2.ensures c.apply-inner.ensures in
    enters_along p items entries c.args.outer c.args.level c.args.e x y z at along there c.in-Call.callee c.as_slice-in-Call-3.result.now c.apply-inner.result
    (c.in-Call.is ∙ ap (λ l. Call c.in-Call.callee l) (sym c.as_slice-in-Call-3.ensures)) inner c.if-edge-items.false
    (sym c.proc_of.ensures ∙ c.if-proc_of-as_slice.false ∙ ap (λ l. (get_or l c.args.outer c.index-as_slice-outer.result).proc) c.as_slice-in-Call.ensures)

pub returns-else-proc_of-as_slice : goal.returns-else-proc_of-as_slice
returns-else-proc_of-as_slice g c =
    let p = c.args.program.now in let items = c.args.items.now in let entries = c.args.entries.now in
    let x = get_or items c.args.level c.index-items-level.result in let y = c.index-as_slice-e.result in
    let at = found_at items c.args.level c.index-items-level.result c.requires.level in
    let along = got_slice c.as_slice.result.now p.edges c.args.e y c.as_slice.ensures c.requires.edge c.index-as_slice-e.is in
    let z = get_or entries c.args.outer c.index-as_slice-outer.result in
    let there = found_at entries c.args.outer c.index-as_slice-outer.result c.requires.outer in
    let inner = inner_is items entries c.args.level c.args.outer c.index-items-level.result c.index-items-level-in-Call.result c.index-as_slice-outer.result c.index-as_slice-outer-in-Call.result
    c.as_slice-in-Call-2.result.now c.apply-inner.result c.requires.level c.requires.outer c.as_slice-in-Call-2.ensures c.apply-inner.ensures in
    let before = c.as_slice-in-Call-3.result.now in
    on_ok c.enter_choices.result
    (admits_less p items entries c.args.bases.now.items c.enter_choices.new.entries c.enter_choices.new.bases.items (IsChosen c.in-Call.callee before c.apply-inner.result (unknown_count before))
    (IsEntering p items entries c.args.outer c.args.level c.args.e)
    (entering_chosen p items entries c.args.outer c.args.level c.args.e x y z at along there c.in-Call.callee before c.apply-inner.result
    (c.in-Call.is ∙ ap (λ l. Call c.in-Call.callee l) (sym c.as_slice-in-Call-3.ensures)) inner)) c.enter_choices.ensures

use Rattle.std.proofs.Common.{[], replicate, ap, sym, subst, ◌∙◌, arith}
use Rattle.refute_path.specs.EntryArenas.{IsEntryArena}
use Rattle.refute_path.proofs.Entered.{empty_entries, entries_begin, entries_go_on, entries_go_down, entries_closed}
use Rattle.refute_path.proofs.enters.enter_all.Goals as goal

pub start_all-requires-clause-arena : goal.start_all-requires-clause-arena
start_all-requires-clause-arena g c =
    let e = c.len.ensures in
    subst (λ entries. IsEntryArena c.args.program.now c.args.items.now entries c.in_ok-bases.bases.items) (sym c.new-entries.ensures)
    (empty_entries c.args.program.now c.args.items.now c.in_ok-bases.bases.items (c.in_ok-bases.ensures ∙ ap (λ n. replicate n []) e))

pub loop-place-init : goal.loop-place-init
loop-place-init g c =
    entries_begin c.args.program.now c.requires.formed c.args.items.now c.new-entries.result c.start_all.new.entries c.in_ok-bases.bases.items c.start_all.new.bases.items c.in_ok-start_all.ensures

pub loop-place-preserved : goal.loop-place-preserved
loop-place-preserved g c =
    let t = c.loop-place-test.true in let e = c.len-in-loop-place.ensures in
    entries_go_on c.args.program.now c.args.items.now c.loop-place.entries c.enter_entry.new.entries c.loop-place.bases.items c.enter_entry.new.bases.items c.loop-place.place c.loop-place.invariant (omega arith) c.in_ok-enter_entry.ensures

pub loop-place-smaller : goal.loop-place-smaller
loop-place-smaller g c =
    let t = c.loop-place-test.true in let e = c.len-in-loop-place.ensures in
    entries_go_down c.args.program.now c.args.items.now c.loop-place.entries c.enter_entry.new.entries c.loop-place.bases.items c.enter_entry.new.bases.items c.loop-place.place c.loop-place.invariant (omega arith) c.in_ok-enter_entry.ensures

pub returns-clause-closed : goal.returns-clause-closed
returns-clause-closed g c =
    let t = c.loop-place-test.false in let e = c.len-in-loop-place.ensures in
    entries_closed c.args.program.now c.args.items.now c.loop-place.entries c.loop-place.bases.items c.loop-place.place c.loop-place.invariant (omega arith)

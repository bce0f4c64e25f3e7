use Rattle.std.proofs.Common.{sym, subst, arith}
use Rattle.refute_path.specs.Arenas.{IsArena}
use Rattle.refute_path.proofs.Looped.{empty_arena, begins, goes_on, goes_down, all_closed}
use Rattle.refute_path.proofs.closing.place_all.Goals as goal

pub open_all-requires-clause-arena : goal.open_all-requires-clause-arena
open_all-requires-clause-arena g c =
    subst (λ items. IsArena c.args.program.now items c.in_ok-bases.bases.items) (sym c.new-items.ensures) (empty_arena c.args.program.now c.in_ok-bases.bases.items c.in_ok-bases.ensures)

pub loop-place-init : goal.loop-place-init
loop-place-init g c =
    begins c.args.program.now c.new-items.result c.open_all.new.items c.in_ok-bases.bases.items c.open_all.new.bases.items c.in_ok-open_all.ensures

pub loop-place-preserved : goal.loop-place-preserved
loop-place-preserved g c =
    let t = c.loop-place-test.true in let e = c.len.ensures in
    goes_on c.args.program.now c.loop-place.items c.push_item.new.items c.loop-place.bases.items c.push_item.new.bases.items c.loop-place.place c.loop-place.invariant (omega arith) c.in_ok-push_item.ensures

pub loop-place-smaller : goal.loop-place-smaller
loop-place-smaller g c =
    let t = c.loop-place-test.true in let e = c.len.ensures in
    goes_down c.args.program.now c.loop-place.items c.push_item.new.items c.loop-place.bases.items c.push_item.new.bases.items c.loop-place.place c.loop-place.invariant (omega arith) c.in_ok-push_item.ensures

pub returns-clause-closed : goal.returns-clause-closed
returns-clause-closed g c =
    let t = c.loop-place-test.false in let e = c.len.ensures in
    all_closed c.args.program.now c.loop-place.items c.loop-place.bases.items c.loop-place.place c.loop-place.invariant (omega arith)

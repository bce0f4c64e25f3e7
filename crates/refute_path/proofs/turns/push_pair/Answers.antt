use Rattle.std.proofs.Common.{get_or, ap, sym, ◌∙◌}
use Rattle.affine_prog.specs.declared.Proc.{Proc}
use Rattle.affine_prog.specs.declared.Kind.TheVariants.{Call}
use Rattle.call_summaries.proofs.ByNumber.{exit_at, callee_within}
use Rattle.refute_path.specs.Gains.{IsCallOf}
use Rattle.refute_path.proofs.Found.{got_in}
use Rattle.refute_path.proofs.Pushing.{on_ok}
use Rattle.refute_path.proofs.Gaining.{got_slice, got_default, gains_none, no_call, do_no_call, not_the_exit, calls_along, call_gained}
use Rattle.refute_path.proofs.turns.push_pair.Goals as goal

abbrev none : Proc
none = record { entry = 0; exit = 0; slots = 0 }

pub returns-then-edge-as_slice : goal.returns-then-edge-as_slice
returns-then-edge-as_slice g c =
    let p = c.args.program.now in let items = c.args.items.now in let x = get_or c.as_slice-2.result.now c.args.caller c.index-as_slice-caller.result in let y = c.index-as_slice-e.result in
    gains_none p items c.args.bases.now.items (IsCallOf p items c.args.caller c.args.callee c.args.e) c.requires.arena
    (no_call p items c.args.caller c.args.e x y (got_default c.as_slice-2.result.now items c.args.caller c.index-as_slice-caller.result c.as_slice-2.ensures c.requires.caller)
    (got_slice c.as_slice.result.now p.edges c.args.e y c.as_slice.ensures c.requires.edge c.index-as_slice-e.is) c.if-edge-as_slice.true c.args.callee)

pub returns-in-Do : goal.returns-in-Do
returns-in-Do g c =
    let p = c.args.program.now in let items = c.args.items.now in let x = get_or c.as_slice-2.result.now c.args.caller c.index-as_slice-caller.result in let y = c.index-as_slice-e.result in
    gains_none p items c.args.bases.now.items (IsCallOf p items c.args.caller c.args.callee c.args.e) c.requires.arena
    (do_no_call p items c.args.caller c.args.e x y (got_default c.as_slice-2.result.now items c.args.caller c.index-as_slice-caller.result c.as_slice-2.ensures c.requires.caller)
    (got_slice c.as_slice.result.now p.edges c.args.e y c.as_slice.ensures c.requires.edge c.index-as_slice-e.is) c.in-Do.field-0 c.in-Do.is c.args.callee)

pub returns-then-as_slice-callee : goal.returns-then-as_slice-callee
returns-then-as_slice-callee g c =
    let p = c.args.program.now in let items = c.args.items.now in let x = get_or c.as_slice-2.result.now c.args.caller c.index-as_slice-caller.result in let y = c.index-as_slice-e.result in let w = get_or c.as_slice-in-Call.result.now c.args.callee c.index-as_slice-callee.result in
    let along = got_slice c.as_slice.result.now p.edges c.args.e y c.as_slice.ensures c.requires.edge c.index-as_slice-e.is in
    let within = callee_within p c.requires.formed y (got_in p.edges c.args.e y along) c.in-Call.proc c.in-Call.before c.in-Call.is in
    gains_none p items c.args.bases.now.items (IsCallOf p items c.args.caller c.args.callee c.args.e) c.requires.arena
    (not_the_exit p items c.args.caller c.args.e x y (got_default c.as_slice-2.result.now items c.args.caller c.index-as_slice-caller.result c.as_slice-2.ensures c.requires.caller) along
    w c.args.callee c.in-Call.proc c.in-Call.before (got_default c.as_slice-in-Call.result.now items c.args.callee c.index-as_slice-callee.result c.as_slice-in-Call.ensures c.requires.callee) c.in-Call.is
    (λ same. c.if-as_slice-callee.true (same ∙ exit_at p c.in-Call.proc none within ∙ sym (ap (λ l. (get_or l c.in-Call.proc none).exit) c.as_slice-in-Call-2.ensures))))

pub push_calls-requires-clause-along : goal.push_calls-requires-clause-along
push_calls-requires-clause-along g c =
    let p = c.args.program.now in let items = c.args.items.now in let x = get_or c.as_slice-2.result.now c.args.caller c.index-as_slice-caller.result in let y = c.index-as_slice-e.result in let w = get_or c.as_slice-in-Call.result.now c.args.callee c.index-as_slice-callee.result in
    let along = got_slice c.as_slice.result.now p.edges c.args.e y c.as_slice.ensures c.requires.edge c.index-as_slice-e.is in
    let within = callee_within p c.requires.formed y (got_in p.edges c.args.e y along) c.in-Call.proc c.in-Call.before c.in-Call.is in
    calls_along p items c.args.caller c.args.e x y (got_default c.as_slice-2.result.now items c.args.caller c.index-as_slice-caller.result c.as_slice-2.ensures c.requires.caller) along
    w c.args.callee c.in-Call.proc c.slots_at-slots.result c.as_slice-in-Call-3.result.now (got_default c.as_slice-in-Call.result.now items c.args.callee c.index-as_slice-callee.result c.as_slice-in-Call.ensures c.requires.callee)
    (c.in-Call.is ∙ ap (λ l. Call c.in-Call.proc l) (sym c.as_slice-in-Call-3.ensures)) c.if-edge-as_slice.false
    (c.if-as_slice-callee.false ∙ ap (λ l. (get_or l c.in-Call.proc none).exit) c.as_slice-in-Call-2.ensures ∙ sym (exit_at p c.in-Call.proc none within))
    c.slots_at-slots.ensures.slots c.slots_at-slots.ensures.apart

pub returns-else-as_slice-callee : goal.returns-else-as_slice-callee
returns-else-as_slice-callee g c =
    let p = c.args.program.now in let items = c.args.items.now in let x = get_or c.as_slice-2.result.now c.args.caller c.index-as_slice-caller.result in let y = c.index-as_slice-e.result in let w = get_or c.as_slice-in-Call.result.now c.args.callee c.index-as_slice-callee.result in
    on_ok c.push_calls.result
    (call_gained p items c.args.caller c.args.e x y (got_default c.as_slice-2.result.now items c.args.caller c.index-as_slice-caller.result c.as_slice-2.ensures c.requires.caller)
    (got_slice c.as_slice.result.now p.edges c.args.e y c.as_slice.ensures c.requires.edge c.index-as_slice-e.is)
    w c.args.callee c.in-Call.proc c.slots_at-slots.result c.as_slice-in-Call-3.result.now (got_default c.as_slice-in-Call.result.now items c.args.callee c.index-as_slice-callee.result c.as_slice-in-Call.ensures c.requires.callee)
    (c.in-Call.is ∙ ap (λ l. Call c.in-Call.proc l) (sym c.as_slice-in-Call-3.ensures)) c.push_calls.new.items c.args.bases.now.items c.push_calls.new.bases.items) c.push_calls.ensures

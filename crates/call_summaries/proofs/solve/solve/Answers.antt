use Rattle.std.proofs.Common.{length, rules, ap, sym, subst, ◌∙◌, arith}
use Rattle.affine_prog.specs.Spans.{IsMapTo}
use Rattle.row_engine.specs.States.{State, row_count}
use Rattle.row_engine.proofs.Starting.{begin_is, first_is, first_sound, first_queued, first_marked, first_nodes, first_leading, first_bounded, first_counted}
use Rattle.call_summaries.specs.Solutions.{IsSolved}
use Rattle.call_summaries.proofs.Soundness.{maps_are_rows}
use Rattle.call_summaries.proofs.Solving.{narrow_bound, solved_at_end, opens_stay}
use Rattle.call_summaries.proofs.solve.solve.Goals as goal

pub open_all-requires-clause-nodes : goal.open_all-requires-clause-nodes
open_all-requires-clause-nodes g c = ap (λ (s : State). length s.bases) c.in_ok-nodes.ensures ∙ (begin_is 289 c.args.program.now.nodes).nodes

pub close-requires : goal.close-requires
close-requires g c =
    let p = c.args.program.now in let are = maps_are_rows p c.requires.formed in let o = c.in_ok-open_all.ensures in
    let is = first_is 289 p.nodes (IsMapTo p) are c.in_ok-nodes.nodes c.in_ok-nodes.ensures c.open_all.new.nodes c.args.steps.now c.open_all.new.steps o.grows o.queues in
    let sound = first_sound 289 p.nodes (IsMapTo p) are c.in_ok-nodes.nodes c.in_ok-nodes.ensures c.open_all.new.nodes c.args.steps.now c.open_all.new.steps o.grows in
    let queued = first_queued 289 p.nodes (IsMapTo p) are c.in_ok-nodes.nodes c.in_ok-nodes.ensures c.open_all.new.nodes c.args.steps.now c.open_all.new.steps o.grows o.queues in
    let marked = first_marked 289 p.nodes (IsMapTo p) are c.in_ok-nodes.nodes c.in_ok-nodes.ensures c.open_all.new.nodes c.args.steps.now c.open_all.new.steps o.grows in
    (search rules, ((c.requires.formed, c.in_ok-tables.ensures), (are, (is, (sound, (queued, marked))))))

pub returns-in_err-open_all-clause-never_falls : goal.returns-in_err-open_all-clause-never_falls
returns-in_err-open_all-clause-never_falls g c = c.open_all.ensures.grows.rises

pub returns-in_err-open_all-clause-bounded : goal.returns-in_err-open_all-clause-bounded
returns-in_err-open_all-clause-bounded g c =
    let p = c.args.program.now in let are = maps_are_rows p c.requires.formed in let o = c.open_all.ensures in let start = c.in_ok-nodes.nodes in let new = c.open_all.new.nodes in let s = c.open_all.new.steps in
    let f = first_bounded 289 p.nodes (IsMapTo p) are start c.in_ok-nodes.ensures new c.args.steps.now s o.grows in
    let n = narrow_bound p c.requires.formed new (first_nodes 289 p.nodes (IsMapTo p) are start c.in_ok-nodes.ensures new c.args.steps.now s o.grows) (first_leading 289 p.nodes (IsMapTo p) are start c.in_ok-nodes.ensures new c.args.steps.now s o.grows)
    (first_sound 289 p.nodes (IsMapTo p) are start c.in_ok-nodes.ensures new c.args.steps.now s o.grows) in omega arith

pub returns-in_err-close-clause-never_falls : goal.returns-in_err-close-clause-never_falls
returns-in_err-close-clause-never_falls g c = let a = c.in_ok-open_all.ensures.grows.rises in let b = c.close.ensures.rises in omega arith

pub returns-in_err-close-clause-bounded : goal.returns-in_err-close-clause-bounded
returns-in_err-close-clause-bounded g c =
    let p = c.args.program.now in let are = maps_are_rows p c.requires.formed in let o = c.in_ok-open_all.ensures in let start = c.in_ok-nodes.nodes in let e = c.close.ensures in
    let f = first_bounded 289 p.nodes (IsMapTo p) are start c.in_ok-nodes.ensures c.open_all.new.nodes c.args.steps.now c.open_all.new.steps o.grows in
    let k = first_nodes 289 p.nodes (IsMapTo p) are start c.in_ok-nodes.ensures c.open_all.new.nodes c.args.steps.now c.open_all.new.steps o.grows in
    let n = narrow_bound p c.requires.formed c.close.new.nodes (e.nodes ∙ k) e.leading e.sound in let b = e.bounded in omega arith

pub returns-clause-solved : goal.returns-clause-solved
returns-clause-solved g c =
    let p = c.args.program.now in let are = maps_are_rows p c.requires.formed in let o = c.in_ok-open_all.ensures in let e = c.in_ok-close.ensures in
    let k = first_nodes 289 p.nodes (IsMapTo p) are c.in_ok-nodes.nodes c.in_ok-nodes.ensures c.open_all.new.nodes c.args.steps.now c.open_all.new.steps o.grows in
    subst (IsSolved p c.args.wanted.now) (sym c.into_bases.ensures)
    (solved_at_end p c.requires.formed c.args.wanted.now c.requires.others c.close.new.nodes (e.nodes ∙ k) e.leading e.sound
    (opens_stay p (length p.procs) c.args.wanted.now c.open_all.new.nodes c.close.new.nodes e.grown o.pushes) e.closed)

pub returns-clause-never_falls : goal.returns-clause-never_falls
returns-clause-never_falls g c = let a = c.in_ok-open_all.ensures.grows.rises in let b = c.in_ok-close.ensures.rises in omega arith

pub returns-clause-bounded : goal.returns-clause-bounded
returns-clause-bounded g c =
    let p = c.args.program.now in let are = maps_are_rows p c.requires.formed in let o = c.in_ok-open_all.ensures in let start = c.in_ok-nodes.nodes in let e = c.in_ok-close.ensures in
    let f = first_bounded 289 p.nodes (IsMapTo p) are start c.in_ok-nodes.ensures c.open_all.new.nodes c.args.steps.now c.open_all.new.steps o.grows in
    let k = first_nodes 289 p.nodes (IsMapTo p) are start c.in_ok-nodes.ensures c.open_all.new.nodes c.args.steps.now c.open_all.new.steps o.grows in
    let n = narrow_bound p c.requires.formed c.close.new.nodes (e.nodes ∙ k) e.leading e.sound in let b = e.bounded in omega arith

pub returns-clause-counted : goal.returns-clause-counted
returns-clause-counted g c =
    let p = c.args.program.now in let are = maps_are_rows p c.requires.formed in let o = c.in_ok-open_all.ensures in let e = c.in_ok-close.ensures in
    let f = first_counted 289 p.nodes (IsMapTo p) are c.in_ok-nodes.nodes c.in_ok-nodes.ensures c.open_all.new.nodes c.args.steps.now c.open_all.new.steps o.grows o.queues in
    let b = e.counted in let i = ap row_count c.into_bases.ensures in omega arith

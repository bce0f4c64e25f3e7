use Rattle.std.proofs.Common.{List, ◌∙◌, ap, sym, subst, arith, length}
use Rattle.std.proofs.lemmas.List.{take_all}
use Rattle.affine_prog.specs.declared.Edge.{Edge}
use Rattle.affine_prog.specs.Spans.{IsMapTo}
use Rattle.row_engine.proofs.Pushing.{grown_none, grown_all, grown_then, grown_fails, grown_sound}
use Rattle.call_summaries.specs.Sound.{IsReturned}
use Rattle.call_summaries.specs.Pushes.{Along, Back}
use Rattle.call_summaries.proofs.Soundness.{maps_are_rows}
use Rattle.call_summaries.proofs.AlongEdges.{back_is_monotone, along_none, along_more, place, place_is, place_in, edge_here, edge_in, prepared_here}
use Rattle.call_summaries.proofs.worklist.push_to_calls.Goals as goal

pub loop-place-init : goal.loop-place-init
loop-place-init g c =
    grown_none 289 (IsMapTo c.args.program.now) c.args.nodes.now c.args.steps.now (along_none c.args.program.now (λ e. Back c.args.program.now e c.args.nodes.now c.args.nodes.now c.args.row.now))

pub bounds-as_slice-k : goal.bounds-as_slice-k
bounds-as_slice-k g c = let h = (c.requires.places _ (place_in c.args.program.now c.args.places.now c.loop-place.place-index c.loop-place-test.true)).0 in let e = ap (λ (x : List Edge). length x) c.as_slice.ensures in omega arith

pub bounds-prepared-k : goal.bounds-prepared-k
bounds-prepared-k g c = let h = (c.requires.places _ (place_in c.args.program.now c.args.places.now c.loop-place.place-index c.loop-place-test.true)).0 in let e = c.requires.prepared.each in omega arith

pub push_back-requires-clause-edge : goal.push_back-requires-clause-edge
push_back-requires-clause-edge g c =
    edge_in c.args.program.now c.args.places.now c.loop-place.place-index c.loop-place-test.true (c.requires.places _ (place_in c.args.program.now c.args.places.now c.loop-place.place-index c.loop-place-test.true)).0
    c.index-as_slice-k.result c.as_slice.result.now c.as_slice.ensures c.index-as_slice-k.is

pub push_back-requires-clause-prepared : goal.push_back-requires-clause-prepared
push_back-requires-clause-prepared g c =
    prepared_here c.args.program.now c.args.places.now c.loop-place.place-index c.loop-place-test.true (c.requires.places _ (place_in c.args.program.now c.args.places.now c.loop-place.place-index c.loop-place-test.true)).0
    c.index-as_slice-k.result c.as_slice.result.now c.as_slice.ensures c.index-as_slice-k.is
    c.args.prepared.now c.index-prepared-k.result c.as_slice-in-loop-place.result.now c.requires.prepared c.index-prepared-k.is c.as_slice-in-loop-place.ensures

pub push_back-requires-clause-nodes : goal.push_back-requires-clause-nodes
push_back-requires-clause-nodes g c = c.loop-place.invariant.grows.nodes ∙ c.requires.nodes

pub push_back-requires-clause-sound : goal.push_back-requires-clause-sound
push_back-requires-clause-sound g c = grown_sound (maps_are_rows c.args.program.now c.requires.formed) c.known.ensures.leading c.loop-place.invariant c.requires.sound

pub push_back-requires-clause-own : goal.push_back-requires-clause-own
push_back-requires-clause-own g c =
    let h = c.requires.places _ (place_in c.args.program.now c.args.places.now c.loop-place.place-index c.loop-place-test.true) in
    let e = edge_here c.args.program.now c.args.places.now c.loop-place.place-index c.loop-place-test.true h.0 c.index-as_slice-k.result c.as_slice.result.now c.as_slice.ensures c.index-as_slice-k.is in
    subst (λ e. IsReturned c.args.program.now e.kind c.args.row.now) (sym e) h.1

pub returns-in_err-push_back : goal.returns-in_err-push_back
returns-in_err-push_back g c =
    grown_fails (maps_are_rows c.args.program.now c.requires.formed) c.known.ensures.leading c.loop-place.invariant c.push_back.ensures c.from_residual.result c.from_residual.ensures.0

pub loop-place-preserved : goal.loop-place-preserved
loop-place-preserved g c =
    let p = c.args.program.now in let o = c.in_ok-push_back.ensures in let old = c.args.nodes.now in let mid = c.loop-place.nodes in let new = c.push_back.new.nodes in let places = c.args.places.now in let i = c.loop-place.place-index in
    let k = place p places i c.loop-place-test.true in
    let e = edge_here p places i c.loop-place-test.true (c.requires.places _ (place_in p places i c.loop-place-test.true)).0 c.index-as_slice-k.result c.as_slice.result.now c.as_slice.ensures c.index-as_slice-k.is in
    grown_then (maps_are_rows p c.requires.formed) c.known.ensures.leading c.loop-place.invariant o
    (λ first now. along_more p (λ e old new. Back p e old new c.args.row.now) (back_is_monotone p c.args.row.now) places i k old mid new c.loop-place-test.true (place_is p places i c.loop-place-test.true)
    c.loop-place.invariant.grows.grown o.grows.grown first (subst (λ e. Back p e mid new c.args.row.now) e now))

pub returns : goal.returns
returns g c =
    grown_all (subst (Along c.args.program.now (λ e. Back c.args.program.now e c.args.nodes.now c.loop-place.nodes c.args.row.now)) (take_all c.loop-place.place-index c.args.places.now c.loop-place-test.false)) c.loop-place.invariant

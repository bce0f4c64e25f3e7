use Rattle.std.proofs.Common.{List, ◌<◌, Bor, length, get_or, ap, sym, subst, ◌∙◌, arith}
use Rattle.affine_prog.specs.declared.Assign.{Assign}
use Rattle.affine_prog.specs.declared.Edge.{Edge}
use Rattle.affine_prog.proofs.Lemmas.{ArePlaced}
use Rattle.call_summaries.proofs.ByNumber.{do_placed, before_placed}
use Rattle.call_summaries.proofs.lookups.prepared.Goals.{in-Do, in-Call}
use Rattle.call_summaries.proofs.lookups.prepared.Goals as goal

pub prepare-requires : goal.prepare-requires
prepare-requires c = elim c.match-edge.branch [
  | in-Do w ↦
      let e = c.edge-item.result in
      let same = c.edge-item.is ∙ ap (λ (l : List Edge). get_or l c.loop-edge.edge-index e) c.as_slice-edge-items.ensures in
      let b : c.loop-edge.edge-index < length c.args.program.now.edges = let n = ap (λ (l : List Edge). length l) c.as_slice-edge-items.ensures in let t = c.loop-edge-test.true in omega arith in
      subst ArePlaced (sym (c.as_slice.ensures ∙ ap (λ (x : Bor (List Assign)). x.now) w.assigns-is)) (do_placed c.args.program.now c.requires e (c.loop-edge.edge-index, b, sym same) w.in-Do.assigns w.in-Do.is)
  | in-Call w ↦
      let e = c.edge-item.result in
      let same = c.edge-item.is ∙ ap (λ (l : List Edge). get_or l c.loop-edge.edge-index e) c.as_slice-edge-items.ensures in
      let b : c.loop-edge.edge-index < length c.args.program.now.edges = let n = ap (λ (l : List Edge). length l) c.as_slice-edge-items.ensures in let t = c.loop-edge-test.true in omega arith in
      subst ArePlaced (sym (c.as_slice.ensures ∙ ap (λ (x : Bor (List Assign)). x.now) w.assigns-is)) (before_placed c.args.program.now c.requires e (c.loop-edge.edge-index, b, sym same) w.in-Call.callee w.in-Call.before w.in-Call.is)
]

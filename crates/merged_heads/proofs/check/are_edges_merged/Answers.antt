use Rattle.std.proofs.Common.{ap, subst, ◌∙◌, arith, length, All, List, slice_index_or}
use Rattle.std.proofs.lemmas.List.{take_all}
use Rattle.affine_prog.specs.declared.Edge.{Edge}
use Rattle.merged_heads.specs.Merges.{IsEdgeMerged}
use Rattle.merged_heads.proofs.Told.{edges_more}
use Rattle.merged_heads.proofs.check.are_edges_merged.Goals as goal

pub loop-edge-preserved : goal.loop-edge-preserved
loop-edge-preserved c =
    let long = ap (λ (xs : List Edge). length xs) c.as_slice-edge-items.ensures in
    edges_more c.args.program.now c.args.table.now c.loop-edge.edge-index c.edge-item.result (omega (arith, c.loop-edge-test.true, long))
    (c.edge-item.is ∙ ap (λ (xs : List Edge). slice_index_or xs c.loop-edge.edge-index c.edge-item.result) c.as_slice-edge-items.ensures)
    (c.is_edge_merged.ensures c.if-not-is_edge_merged.false) c.loop-edge.invariant

pub returns : goal.returns
returns c = λ holds.
    let long = ap (λ (xs : List Edge). length xs) c.as_slice-edge-items.ensures in
    subst (All (IsEdgeMerged c.args.program.now c.args.table.now)) (take_all c.loop-edge.edge-index c.args.program.now.edges (omega (arith, c.loop-edge-test.false, long))) c.loop-edge.invariant

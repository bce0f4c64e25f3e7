use Rattle.std.proofs.Common.{◌≡◌, ◌<◌, ◌+◌, ap, sym, subst, ◌∙◌, arith, slice_index_or, length, take, List, Contains}
use Rattle.std.specs.List.{AllZip}
use Rattle.std.proofs.lemmas.List.Elements.{Contains-get_or}
use Rattle.affine_prog.specs.declared.Edge.{Edge}
use Rattle.affine_prog.specs.Programs.{IsEdgeOf}
use Rattle.merged_heads.specs.BlockPrograms.{IsBlockEdge, edges_to}
use Rattle.block_program.proofs.Placed.{zip_kept, zip_left_out, merged_here, number_here}
use Rattle.std.specs.Prelude.{IsSome}
use Rattle.merged_heads.specs.Merges.{edge_number}
use Rattle.block_program.proofs.small_edges.block_edges.Goals.{in-Some+in_ok-made+in_ok-push, in_default}
use Rattle.block_program.proofs.small_edges.block_edges.Goals as goal

pub loop-edge-preserved : goal.loop-edge-preserved
loop-edge-preserved c =
    let program = c.args.program.now in
    let merging = c.args.merging.now in
    let heads = c.args.heads.now in
    let edges = program.edges in
    let i = c.loop-edge.edge-index in
    let e : Edge = c.edge-item.result in
    let within : i < length edges = omega (arith, c.loop-edge-test.true, ap length c.as_slice-edge-items.ensures) in
    let is : e ≡ slice_index_or edges i e = c.edge-item.is ∙ ap (λ (xs : List Edge). slice_index_or xs i e) c.as_slice-edge-items.ensures in
    let formed : IsEdgeOf program e = subst (IsEdgeOf program) (sym is) (c.requires.formed.edges i e within) in
    elim c.match-numbers-edge.branch [
      | in-Some+in_ok-made+in_ok-push w ↦
          let n = number_here program merging heads c.args.numbers.now c.requires.numbers e.to w.in-Some.to formed.to w.in-Some.is in
          let listed : Contains heads e.to = subst (Contains heads) n.is (Contains-get_or heads w.in-Some.to 0 n.within) in
          let pushed = w.in_ok-push.ensures {u = tt} in
          subst (AllZip (IsBlockEdge program merging heads) (edges_to heads (take (i + 1) edges))) (sym (w.edges-is ∙ pushed.ok))
          (zip_kept program merging heads c.requires.heads edges i e within c.loop-edge.edges c.loop-edge.invariant w.in_ok-made.made
          (subst (λ (x : Edge). Contains heads x.to) is listed)
          (subst (λ (x : Edge). IsBlockEdge program merging heads x w.in_ok-made.made) is (w.in_ok-made.ensures {u = tt})))
      | in_default w ↦
          subst (AllZip (IsBlockEdge program merging heads) (edges_to heads (take (i + 1) edges))) (sym w.edges-is)
          (zip_left_out program merging heads c.requires.heads edges i e within c.loop-edge.edges c.loop-edge.invariant
          (subst (λ (x : Edge). IsSome (edge_number merging x.to)) is (merged_here program merging heads c.args.numbers.now c.requires.numbers e.to formed.to w.in_default.not-Some)))
    ]

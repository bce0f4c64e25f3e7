-- The work of an analysis: its bound, and the rows of bases of the states.
use Rattle.std.proofs.Common.{◌≡◌, ℕ, ◌+◌, ◌*◌, ◌-◌, ◌<◌, ◌≤◌, List, [], All, length, slice_index, refl, ap, subst, ◌∙◌, arith}
use Rattle.std.specs.Prelude.{Option, None, Some, sum_by}
use Rattle.std.proofs.lemmas.List.{take_all}
use Rattle.std.proofs.lemmas.List.Elements.{Contains-get_or}
use Rattle.row_modules.specs.Bases.{IsLeadingBasis}
use Rattle.lead_basis.proofs.Laws.{as_many_rows, turned, transitive}
use Rattle.affine_prog.specs.declared.Program.{Program}
use Rattle.affine_prog.specs.Programs.{IsWellFormed}
use Rattle.affine_prog.specs.Spans.{rows_at, AreReached}
use Rattle.block_program.specs.Contractions.{Contraction}
use Rattle.merged_heads.specs.Merges.{edge_number}
use Rattle.block_program.specs.Numbers.{AreBlocks, number_of}
use Rattle.flow_points.specs.PointLists.{FlowPoints}
use Rattle.affine_lift.specs.Lifting.{IsLifted}
use Rattle.report_text.specs.declared.names.Name.{Name}
use Rattle.analyser_core.specs.Work.{nodes_of}
use Rattle.analyser_core.specs.Made.{HasWorked, some}
use Rattle.analyser_core.specs.States.{states_by, states_in, merged_part, merged_count, AreMergedStates}
use Rattle.analyser_core.proofs.Counted.{numbers_rise, count_nodes, count_rows}
use Rattle.block_program.proofs.Lemmas.{merged_at, number_at, not_both}
use Rattle.analyser_core.proofs.NodeStates.{states_known}

basis_at : (lists : List (List (List ℕ))) (u : ℕ) → All (IsLeadingBasis 17) lists → u < length lists → IsLeadingBasis 17 (rows_at lists u)
basis_at lists u all below = all u [] below

module _ (program : Program) (formed : IsWellFormed program) (blocks : Contraction) (b : AreBlocks program blocks) where
  -- heads and merged nodes are no more than all nodes
  pub few_merged : length b.heads + merged_count blocks ≤ program.nodes
  few_merged =
      let s = b.small in
      let n = s.numbers in
      let t = b.numbers in
      let head = λ (i : ℕ) (within : i < length b.heads). (n.all (slice_index b.heads i)).0 (Contains-get_or b.heads i 0 within) in
      subst (λ xs. length b.heads + sum_by merged_part xs ≤ program.nodes) (take_all program.nodes blocks.numbers (omega (arith, t.long)))
      (count_nodes b.heads n.order blocks.numbers program.nodes (length b.heads) (omega (arith, t.long)) (omega arith)
      (λ i within. (head i within).node)
      (λ v below none i within same. not_both (edge_number blocks.merging v) (subst (λ (x : ℕ). edge_number blocks.merging x ≡ None) same (head i within).not_merged) (merged_at program formed blocks b v below none)))

  basis_by : (reached merged : List (List (List ℕ))) → AreReached blocks.small reached → All (IsLeadingBasis 17) reached → AreMergedStates program blocks.merging merged
      → (v : ℕ) → v < program.nodes → (o : Option ℕ) → number_of blocks v ≡ o → IsLeadingBasis 17 (states_by reached (rows_at merged v) o)
  basis_by reached merged heads bases states v below None none = basis_at merged v states.bases (omega (arith, below, states.long))
  basis_by reached merged heads bases states v below (Some i) is =
      let s = b.small in let n = number_at program formed blocks b v i below is in basis_at reached i bases (omega (arith, n.within, s.nodes, heads.each))

  -- bases of the states at all nodes have the rows of those at heads and of those at merged nodes
  pub rows_of_states : (lists reached merged : List (List (List ℕ))) → AreReached program lists → All (IsLeadingBasis 17) lists → AreReached blocks.small reached → All (IsLeadingBasis 17) reached
      → AreMergedStates program blocks.merging merged → sum_by length lists ≤ sum_by length reached + sum_by length merged
  rows_of_states lists reached merged are bases heads head_bases states =
      let s = b.small in
      let n = s.numbers in
      let many : length reached ≡ length b.heads = heads.each ∙ s.nodes in
      let same : (v : ℕ) → v < program.nodes → length (rows_at lists v) ≡ length (states_in blocks reached merged v) =
      λ v below. as_many_rows 17 (rows_at lists v) (states_in blocks reached merged v) (basis_at lists v bases (omega (arith, below, are.each)))
      (basis_by reached merged heads head_bases states v below (number_of blocks v) refl)
      (transitive 17 _ _ _ (are.exact v below) (turned 17 _ _ (states_known program formed blocks b reached (rows_at merged v) heads v below (λ none. states.exact v below (merged_at program formed blocks b v below none))))) in
      let sums = count_rows blocks.numbers lists reached merged program.nodes (length b.heads) (omega (arith, are.each)) (omega (arith, states.long)) (omega (arith, many)) same
      (λ v i below is. (number_at program formed blocks b v i below is).within)
      (λ u v i j before below one other. numbers_rise b.heads n.order u v i j before (number_at program formed blocks b u i (omega arith) one) (number_at program formed blocks b v j below other)) in
      let a = ap (sum_by length) (take_all program.nodes lists (omega (arith, are.each))) in
      let c = ap (sum_by length) (take_all (length b.heads) reached (omega (arith, many))) in
      let d = ap (sum_by length) (take_all program.nodes merged (omega (arith, states.long))) in
      omega (arith, sums, a, c, d)

-- maps at heads, states at heads and states at merged nodes together stay within the bound
module _ (points : FlowPoints) (names : List Name) (program : Program) (formed : IsWellFormed program) (blocks : Contraction) (b : AreBlocks program blocks) (lifted : IsLifted points names program) where
  pub within_bound : (before between middle after : ℕ) → before ≤ between
      → between ≤ before + 64 * blocks.small.nodes * ((blocks.small.width + 1) * (blocks.small.width + 1)) → between ≤ middle
      → middle ≤ between + 64 * blocks.small.nodes * (blocks.small.width + 1) → middle ≤ after → after ≤ middle + 64 * (program.width + 1) * merged_count blocks
      → HasWorked points names before after
  within_bound before between middle after falls bound falls_2 bound_2 falls_3 bound_3 =
      let s = b.small in
      let k = length names in
      let h = length b.heads in
      let c = merged_count blocks in
      let n = nodes_of points in
      let few = few_merged program formed blocks b in
      let wide : blocks.small.width ≡ k = s.width ∙ lifted.width in
      let first : between ≤ before + 64 * h * ((k + 1) * (k + 1)) = rw (s.nodes, wide) at bound in
      let second : middle ≤ between + 64 * h * (k + 1) = rw (s.nodes, wide) at bound_2 in
      let third : after ≤ middle + 64 * (k + 1) * c = rw lifted.width at bound_3 in
      let rest = n - (h + c) in
      let parts : n ≡ h + c + rest = omega (arith, few, lifted.nodes) in
      let states : 64 * n * (k + 1) ≡ 64 * h * (k + 1) + 64 * (k + 1) * c + 64 * rest * (k + 1) = (let split : 64 * (h + c + rest) * (k + 1) ≡ 64 * h * (k + 1) + 64 * (k + 1) * c + 64 * rest * (k + 1) = omega arith in ap (λ (m : ℕ). 64 * m * (k + 1)) parts ∙ split) in
      let t = b.simple in
      let simple = length t.simple in
      let extra = simple - h in
      let more : simple ≡ h + extra = (let f = t.few in omega (arith, f)) in
      let maps : 64 * simple * ((k + 1) * (k + 1)) ≡ 64 * h * ((k + 1) * (k + 1)) + 64 * extra * ((k + 1) * (k + 1)) =
      (let split : 64 * (h + extra) * ((k + 1) * (k + 1)) ≡ 64 * h * ((k + 1) * (k + 1)) + 64 * extra * ((k + 1) * (k + 1)) = omega arith in ap (λ (m : ℕ). 64 * m * ((k + 1) * (k + 1))) more ∙ split) in
      some program t.simple lifted t.are (omega arith) (omega (arith, first, second, third, states, maps))

  -- also where the later parts were not begun
  pub states_of_heads : (before between middle : ℕ) → before ≤ between
      → between ≤ before + 64 * blocks.small.nodes * ((blocks.small.width + 1) * (blocks.small.width + 1)) → between ≤ middle
      → middle ≤ between + 64 * blocks.small.nodes * (blocks.small.width + 1) → HasWorked points names before middle
  states_of_heads before between middle falls bound falls_2 bound_2 = within_bound before between middle middle falls bound falls_2 bound_2 (omega arith) (omega arith)

  pub summaries_alone : (before between : ℕ) → before ≤ between
      → between ≤ before + 64 * blocks.small.nodes * ((blocks.small.width + 1) * (blocks.small.width + 1)) → HasWorked points names before between
  summaries_alone before between falls bound = states_of_heads before between between falls bound (omega arith) (omega arith)

-- The table of the states at merged nodes, node by node, and what was counted for it.
use Rattle.std.proofs.Common.{◌≡◌, ℕ, ◌+◌, ◌*◌, ◌-◌, ◌<◌, ◌≤◌, inl, inr, List, [], ◌∷◌, ◌++◌, length, take, ap, subst, sym, arith}
use Rattle.std.specs.Prelude.{Option, None, sum_by}
use Rattle.std.proofs.lemmas.Bool.{cases_eq}
use Rattle.std.proofs.lemmas.List.{length_push, get_or_append_left, get_or_push, take_all}
use Rattle.std.proofs.lemmas.List.Elements.{All-push, All-nil}
use Rattle.std.proofs.lemmas.List.Sums.{sum_by_more, sum_by_push}
use Rattle.row_modules.specs.Bases.{IsLeadingBasis}
use Rattle.affine_prog.specs.declared.Program.{Program}
use Rattle.affine_prog.specs.Programs.{IsWellFormed}
use Rattle.affine_prog.specs.Spans.{rows_at}
use Rattle.block_program.specs.Contractions.{Contraction}
use Rattle.block_program.specs.Numbers.{AreBlocks, number_of}
use Rattle.block_program.proofs.Lemmas.{none_at}
use Rattle.analyser_core.specs.States.{IsMerged, HasStates, merged_part, merged_count, AreMergedStatesBelow, AreMergedStates}
use Rattle.analyser_core.proofs.Counted.{sums_rise}

pub record MergedSoFar (program : Program) (blocks : Contraction) (start now n : ℕ) (merged : List (List (List ℕ))) : Type 0 where
  pub states : AreMergedStatesBelow program blocks.merging n merged
  pub rises : start ≤ now
  pub counts_no_more : now ≤ start + 64 * (program.width + 1) * sum_by merged_part (take n blocks.numbers)
  pub counts_rows : start + sum_by length merged ≤ now

pub so_far_none : (program : Program) (blocks : Contraction) (start : ℕ) → MergedSoFar program blocks start start 0 []
so_far_none program blocks start = record {
  states = record { long = omega arith; bases = All-nil (IsLeadingBasis 17); exact = λ v below merged. absurd (omega (arith, below)) };
  rises = omega arith;
  counts_no_more = omega arith;
  counts_rows = omega arith;
}

-- multiples of larger sums are larger
times_rise : (k a c : ℕ) → a ≤ c → 64 * (k + 1) * a ≤ 64 * (k + 1) * c
times_rise k a c at_most =
    let d = c - a in
    let e : c ≡ a + d = omega (arith, at_most) in
    let split : 64 * (k + 1) * (a + d) ≡ 64 * (k + 1) * a + 64 * (k + 1) * d = omega arith in
    let whole = ap (λ (m : ℕ). 64 * (k + 1) * m) e in omega (arith, whole, split)

module _ (program : Program) (formed : IsWellFormed program) (blocks : Contraction) (b : AreBlocks program blocks) (start now after n : ℕ) (merged : List (List (List ℕ)))
    (below : n < program.nodes) (so_far : MergedSoFar program blocks start now n merged)
    (counts : after ≤ now + 64 * (program.width + 1) * merged_part (number_of blocks n)) where
  counted : after ≤ start + 64 * (program.width + 1) * sum_by merged_part (take (n + 1) blocks.numbers)
  counted =
      let t = b.numbers in
      let part = merged_part (number_of blocks n) in
      let part_sum = sum_by merged_part (take n blocks.numbers) in
      let more : sum_by merged_part (take (n + 1) blocks.numbers) ≡ part_sum + part = sum_by_more merged_part blocks.numbers n None (omega (arith, below, t.long)) in
      let split : 64 * (program.width + 1) * (part_sum + part) ≡ 64 * (program.width + 1) * part_sum + 64 * (program.width + 1) * part = omega arith in
      let whole = ap (λ (m : ℕ). 64 * (program.width + 1) * m) more in
      let a = so_far.counts_no_more in omega (arith, whole, split, a, counts)

  -- at every answer
  pub counted_of_all : after ≤ start + 64 * (program.width + 1) * merged_count blocks
  counted_of_all =
      let t = b.numbers in
      let all = ap (sum_by merged_part) (take_all program.nodes blocks.numbers (omega (arith, t.long))) in
      let rise = times_rise program.width (sum_by merged_part (take (n + 1) blocks.numbers)) (merged_count blocks)
      (let r = sums_rise merged_part blocks.numbers (n + 1) program.nodes (omega (arith, below)) in omega (arith, r, all)) in
      let a = counted in omega (arith, rise, a)

  module _ (states : List (List ℕ)) (basis : IsLeadingBasis 17 states) (exact : number_of blocks n ≡ None → HasStates program n states) where
    exact_at : (v : ℕ) → v < n + 1 → IsMerged blocks.merging v → HasStates program v (rows_at (merged ++ states ∷ []) v)
    exact_at v v_below is_merged =
        let s = so_far.states in
        elim (cases_eq v n) [
          | inl same ↦ subst (λ (i : ℕ). HasStates program i (rows_at (merged ++ states ∷ []) i)) (sym same)
              (subst (HasStates program n) (sym (get_or_push merged states [] n s.long)) (exact (none_at program formed blocks b n below (subst (IsMerged blocks.merging) same is_merged))))
          | inr other ↦
              let before : v < n = omega (arith, other, v_below) in
              subst (HasStates program v) (sym (get_or_append_left merged (states ∷ []) [] v (omega (arith, before, s.long)))) (s.exact v before is_merged)
        ]

    pub so_far_more : now ≤ after → now + length states ≤ after → MergedSoFar program blocks start after (n + 1) (merged ++ states ∷ [])
    so_far_more rises rows =
        let s = so_far.states in
        record {
          states = record {
            long = let l = length_push merged states in omega (arith, l, s.long);
            bases = All-push (IsLeadingBasis 17) merged states s.bases basis;
            exact = exact_at;
          };
          rises = let a = so_far.rises in omega (arith, a, rises);
          counts_no_more = counted;
          counts_rows = let a = so_far.counts_rows in let p = sum_by_push length merged states in omega (arith, a, p, rows);
        }

-- once all nodes are done
module _ (program : Program) (blocks : Contraction) (b : AreBlocks program blocks) (start now n : ℕ) (merged : List (List (List ℕ))) (past : program.nodes ≤ n) (end : n ≤ program.nodes)
    (so_far : MergedSoFar program blocks start now n merged) where
  pub all_states : AreMergedStates program blocks.merging merged
  all_states = let e : n ≡ program.nodes = omega (arith, past, end) in subst (λ (i : ℕ). AreMergedStatesBelow program blocks.merging i merged) e so_far.states

  pub all_counted : now ≤ start + 64 * (program.width + 1) * merged_count blocks
  all_counted =
      let t = b.numbers in
      let all = ap (λ (xs : List (Option ℕ)). 64 * (program.width + 1) * sum_by merged_part xs) (take_all n blocks.numbers (omega (arith, past, t.long))) in
      let a = so_far.counts_no_more in omega (arith, all, a)

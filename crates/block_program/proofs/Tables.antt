-- Tables of options, with one more item.
use Rattle.std.proofs.Common.{◌≡◌, ℕ, ◌+◌, ◌<◌, inl, inr, List, [], ◌∷◌, ◌++◌, length, sym, subst, arith}
use Rattle.std.specs.Prelude.{Option, None, MatchOption, slice_index_or}
use Rattle.std.proofs.lemmas.Bool.{cases_eq}
use Rattle.std.proofs.lemmas.List.{length_push, get_or_append_left, get_or_push}
use Rattle.affine_prog.specs.declared.Program.{Program}
use Rattle.block_program.specs.InnerNodes.{IsInner}
use Rattle.block_program.specs.EdgesInto.{IsEdgeInto, AreEdgesIntoBelow}

-- what holds of each item holds of one more
module _ (P : ℕ → Option ℕ → Type 0) (n : ℕ) (table : List (Option ℕ)) (o : Option ℕ) (long : length table ≡ n) (at : (v : ℕ) → v < n → P v (slice_index_or table v None)) (here : P n o) where
  pub table_push : (v : ℕ) → v < n + 1 → P v (slice_index_or (table ++ o ∷ []) v None)
  table_push v below = elim (cases_eq v n) [
    | inl same ↦ subst (λ (i : ℕ). P i (slice_index_or (table ++ o ∷ []) i None)) (sym same) (subst (P n) (sym (get_or_push table o None n long)) here)
    | inr other ↦ let inside : v < n = omega (arith, other) in subst (P v) (sym (get_or_append_left table (o ∷ []) None v (omega arith))) (at v inside)
  ]

-- one node more in the table of edges
pub entered_push : (program : Program) (n : ℕ) (table : List (Option ℕ)) (o : Option ℕ) → MatchOption o (IsInner program n → ⊥) (IsEdgeInto program n) → AreEdgesIntoBelow program n table → AreEdgesIntoBelow program (n + 1) (table ++ o ∷ [])
entered_push program n table o here t = record {
  long = let l = length_push table o in let m = t.long in omega arith;
  at = table_push (λ v x. MatchOption x (IsInner program v → ⊥) (IsEdgeInto program v)) n table o t.long t.at here;
}

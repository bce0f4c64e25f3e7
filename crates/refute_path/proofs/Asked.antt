-- Rows that are 0 where nothing is visible.
use Rattle.std.proofs.Common.{◌≡◌, ℕ, zero, suc, ◌<◌, ◌+◌, ◌≤◌, inl, inr, List, [], ◌∷◌, false, length, slice_index, refl, sym, subst, ◌∙◌, arith}
use Rattle.std.proofs.lemmas.Bool.{cases_eq, cases_lt, false≢true}
use Rattle.word_rows.specs.Rows.{IsRow}
use Rattle.row_modules.specs.Positions.{has, with_constant, IsZeroOutside}
use Rattle.row_modules.proofs.Laws.{constant_is_in, with_constant_other}

abbrev pub IsZeroBelow : ℕ → List ℕ → ℕ → Type 0
IsZeroBelow set row n = (k : ℕ) → k < n → has set k ≡ false → slice_index row k ≡ 0

beyond : (xs : List ℕ) (k : ℕ) → length xs ≤ k → slice_index xs k ≡ 0
beyond [] k end = refl
beyond (x ∷ xs) zero end = absurd (omega arith)
beyond (x ∷ xs) (suc k) end = beyond xs k (omega arith)

pub zero_outside : (set : ℕ) (row : List ℕ) (n : ℕ) → 16 ≤ n → IsRow 17 row → IsZeroBelow set row n → IsZeroOutside (with_constant set) row
zero_outside set row n all is_row zeros k outside = elim (cases_lt k 16) [
  | inl low ↦ zeros k (omega arith) (sym (with_constant_other set k (λ e. omega arith)) ∙ outside)
  | inr high ↦ elim (cases_eq k 16) [
    | inl e ↦ absurd (false≢true (sym (subst (λ j. has (with_constant set) j ≡ false) e outside) ∙ constant_is_in set))
    | inr other ↦ let w = is_row.width in beyond row k (omega arith)
  ]
]

pub zero_more : (set : ℕ) (row : List ℕ) (n : ℕ) → IsZeroBelow set row n → (has set n ≡ false → slice_index row n ≡ 0) → IsZeroBelow set row (n + 1)
zero_more set row n zeros here k below outside = elim (cases_eq k n) [
  | inl e ↦ rw e (here (subst (λ j. has set j ≡ false) e outside))
  | inr other ↦ zeros k (omega arith) outside
]

-- Positions that a module has whole.
use Rattle.std.proofs.Common.{set, subst, ◌≡◌, ℕ, zero, suc, ◌+◌, ◌-◌, ◌*◌, ◌^◌, ◌<◌, ◌≤◌, inl, inr, List, Contains, slice_index, replicate, length, ap, sym, ◌∙◌, arith}
use native.Mathlib.Nat.{mul-mod_left}
use Rattle.std.proofs.lemmas.Bool.{cases_eq}
use Rattle.std.proofs.lemmas.Grind.{same_number_lists}
use Rattle.std.proofs.lemmas.List.{get_or_past, get_or-set_same, get_or-set_other, set-get_or}
use Rattle.word_rows.specs.Rows.{words_of, plus, IsRow, unit}
use Rattle.word_rows.proofs.Laws.{get_or-wrapped_plus, get_or-zeros, IsRow-zeros, IsRow-plus, IsRow-unit, unit_at, unit_elsewhere, IsRow-set, cleared_and_unit}
use Rattle.row_modules.specs.Modules.{AreRows, IsCombination, IsWithin, none}
use Rattle.row_modules.proofs.Laws.{combination_sum, generator}
use Rattle.lead_basis.specs.Whole.{HasWhole, IsOn}

-- no position is marked
pub nothing_whole : (n : ℕ) (rows : List (List ℕ)) → HasWhole n rows (replicate n 0)
nothing_whole n rows k below some = absurd (some (get_or-zeros n k))

-- what a module has whole, a greater one has
pub whole_kept : (n : ℕ) (old new : List (List ℕ)) (marks : List ℕ) → IsWithin n (Contains old) (Contains new) → HasWhole n old marks → HasWhole n new marks
whole_kept n old new marks within whole k below some = within (unit n k) (whole k below some)

-- a row with 0 at one position more
cleared_on : (marks : List ℕ) (j : ℕ) (a : List ℕ) → j < length a → IsOn marks a → IsOn marks (set a j 0)
cleared_on marks j a below on k unmarked = elim (cases_eq k j) [
  | inl e ↦ rw e (get_or-set_same a j 0 0 below)
  | inr ne ↦ get_or-set_other a j k 0 0 ne ∙ on k unmarked
]

module _ (n : ℕ) (rows : List (List ℕ)) (are : AreRows n (Contains rows)) (marks : List ℕ) (whole : HasWhole n rows marks) where
  on_before : (j : ℕ) → j ≤ n → (a : List ℕ) → IsRow n a → IsOn marks a → ((k : ℕ) → j ≤ k → slice_index a k ≡ 0) → IsCombination n (Contains rows) a
  on_before zero le a row on zeros =
      none a (same_number_lists a (replicate n 0) (row.width ∙ sym (IsRow-zeros n).width) (λ k below. zeros k (omega arith) ∙ sym (get_or-zeros n k)))
  on_before (suc j) le a row on zeros =
      let w = row.width in
      let rest = on_before j (omega arith) (set a j 0) (IsRow-set n j 0 a row) (cleared_on marks j a (omega arith) on)
      (λ k from. elim (cases_eq k j) [
        | inl e ↦ rw e (get_or-set_same a j 0 0 (omega arith))
        | inr ne ↦ get_or-set_other a j k 0 0 ne ∙ zeros k (omega arith)
      ]) in
      elim (cases_eq (slice_index marks j) 0) [
        | inl out ↦ subst (IsCombination n (Contains rows)) (ap (set a j) (sym (on j out)) ∙ set-get_or a j 0) rest
        | inr seen ↦
            subst (IsCombination n (Contains rows)) (sym (cleared_and_unit n j a row))
            (combination_sum n (Contains rows) are (slice_index a j) (set a j 0) (unit n j) rest (whole j (omega arith) seen))
      ]

  -- a row that is 0 wherever no mark stands is in the module
  pub on_is_member : (a : List ℕ) → IsRow n a → IsOn marks a → IsCombination n (Contains rows) a
  on_is_member a row on = on_before n (omega arith) a row on (λ k past. let w = row.width in get_or_past a k 0 (omega arith))

  -- a row with 1 at its lead, and 0 wherever no mark stands behind it, shows that the module has the unit row there
  pub lead_marked : (row : List ℕ) (j : ℕ) → IsRow n row → length marks ≡ n → j < n → Contains rows row → slice_index row j ≡ 1
      → IsOn (set marks j 1) row → HasWhole n rows (set marks j 1)
  lead_marked row j is width below there one on k inside some = elim (cases_eq k j) [
    | inl e ↦ rw e shown
    | inr ne ↦ whole k inside (λ unmarked. some (get_or-set_other marks j k 1 0 ne ∙ unmarked))
  ]
    where
      off : IsOn marks (set row j 0)
      off k unmarked =
          let w = is.width in
          elim (cases_eq k j) [
            | inl e ↦ rw e (get_or-set_same row j 0 0 (omega arith))
            | inr ne ↦ get_or-set_other row j k 0 0 ne ∙ on k (get_or-set_other marks j k 1 0 ne ∙ unmarked)
          ]

      rest : IsCombination n (Contains rows) (set row j 0)
      rest = on_is_member (set row j 0) (IsRow-set n j 0 row is) off

      word_at : (k : ℕ) → k < n → slice_index (words_of (plus (2 ^ 64 - 1) row (set row j 0))) k ≡ slice_index (unit n j) k
      word_at k inside =
          let w = is.width in
          get_or-wrapped_plus (2 ^ 64 - 1) row (set row j 0) k (is.width ∙ sym (IsRow-set n j 0 row is).width)
          ∙ elim (cases_eq k j) [
            | inl e ↦
                let zero_there : slice_index (set row j 0) k ≡ 0 = rw e (get_or-set_same row j 0 0 (omega arith)) in
                let one_there : slice_index row k ≡ 1 = rw e one in
                let unit_there : slice_index (unit n j) k ≡ 1 = rw e (unit_at n j below) in
                rw (zero_there, one_there, unit_there) (omega arith)
            | inr ne ↦
                let same : slice_index (set row j 0) k ≡ slice_index row k = get_or-set_other row j k 0 0 ne in
                let unit_there : slice_index (unit n j) k ≡ 0 = unit_elsewhere n j k ne in
                rw (same, unit_there) (let e : slice_index row k + (2 ^ 64 - 1) * slice_index row k ≡ slice_index row k * 2 ^ 64 = omega arith in rw e (mul-mod_left _ _))
          ]

      shown : IsCombination n (Contains rows) (unit n j)
      shown =
          let made = IsRow-plus n (2 ^ 64 - 1) row (set row j 0) is (IsRow-set n j 0 row is) in
          subst (IsCombination n (Contains rows))
          (same_number_lists _ (unit n j) (made.width ∙ sym (IsRow-unit n j).width) (λ k inside. let w = made.width in word_at k (omega arith)))
          (combination_sum n (Contains rows) are (2 ^ 64 - 1) row (set row j 0) (generator n (Contains rows) are row there) rest)

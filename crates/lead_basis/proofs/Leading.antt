-- What a leading-position basis says of its module, at its first lead.
use Rattle.std.proofs.Common.{◌≡◌, ℕ, ◌+◌, ◌-◌, ◌*◌, ◌/◌, ◌%◌, ◌^◌, ◌≤◌, List, [], ◌∷◌, Contains, slice_index, ap, ap₂, sym, ◌∙◌, arith}
use Rattle.word_rows.specs.Words.{word}
use Rattle.word_rows.specs.Rows.{words_of, plus, times, lead}
use Rattle.word_rows.proofs.Laws.{words_of-plus_second, plus-times}
use Rattle.row_modules.specs.Modules.{AreRows, IsCombination}
use Rattle.row_modules.specs.Bases.{Leads, IsLeadingBasis}
use Rattle.row_modules.proofs.Laws.{combinations, combination_is_row}
use Rattle.row_modules.proofs.Laws.{nothing_contained, rows_with, SplitsAt, split_first}
use Rattle.lead_basis.proofs.Powers.{word_of_multiple, factor_of_zero}
use Rattle.lead_basis.proofs.Positions.{index_of_sum, zero_at, zero_to}

pub basis_rows : (n : ℕ) (rows : List (List ℕ)) → IsLeadingBasis n rows → AreRows n (Contains rows)
basis_rows n [] b v h = absurd (nothing_contained v h)
basis_rows n (row ∷ rest) b v h = rows_with n row rest b.0.is_row (basis_rows n rest b.1) v h

module _ (n : ℕ) (row : List ℕ) (rest : List (List ℕ)) (leads : Leads n row rest) (rows : AreRows n (Contains rest)) where
  wide : AreRows n (Contains (row ∷ rest))
  wide = rows_with n row rest leads.is_row rows

  -- the later rows span rows that are 0 up to the lead
  pub rest_zero : (v : List ℕ) → IsCombination n (Contains rest) v → (k : ℕ) → k ≤ lead row → slice_index v k ≡ 0
  rest_zero v m k le = zero_at n k (Contains rest) rows (zero_to (lead row) rest leads.later k le) v m

  -- the word at the lead of a sum with a multiple of the first row
  at_lead : (v : List ℕ) → (s : SplitsAt n row rest v) → slice_index v (lead row) ≡ word (s.factor * 2 ^ leads.power)
  at_lead v s =
      let r = combination_is_row n (Contains rest) rows s.rest s.combination in
      let e = s.is in
      ap (λ (x : List ℕ). slice_index x (lead row)) e ∙ index_of_sum n s.factor s.rest row (lead row) r leads.is_row
      ∙ ap₂ (λ (x y : ℕ). word (x + s.factor * y)) (rest_zero s.rest s.combination (lead row) (omega arith)) leads.is_pivot
      ∙ ap word (let z : 0 + s.factor * 2 ^ leads.power ≡ s.factor * 2 ^ leads.power = omega arith in z)

  -- the word of a member at the first lead is a multiple of the pivot
  pub pivot_divides : (v : List ℕ) → IsCombination n (Contains (row ∷ rest)) v → (m : ℕ) × (slice_index v (lead row) ≡ m * 2 ^ leads.power)
  pivot_divides v m =
      let s = split_first n row rest leads.is_row rows v m in
      let b = leads.small in
      (s.factor % 2 ^ (64 - leads.power), at_lead v s ∙ word_of_multiple s.factor (64 - leads.power) leads.power (omega arith))

  -- a member that is 0 at the first lead is a combination of the later rows
  pub drop_first : (v : List ℕ) → IsCombination n (Contains (row ∷ rest)) v → slice_index v (lead row) ≡ 0 → IsCombination n (Contains rest) v
  drop_first v m z =
      let s = split_first n row rest leads.is_row rows v m in
      let b = leads.small in
      let j = 64 - leads.power in
      let q = s.factor / 2 ^ (64 - leads.power) in
      let f : s.factor ≡ q * 2 ^ (64 - leads.power) = factor_of_zero s.factor (64 - leads.power) leads.power (omega arith) (sym (at_lead v s) ∙ z) in
      let all = combinations n (Contains rest) rows in
      let closing = words_of (times (2 ^ (64 - leads.power)) row) in
      let e : words_of (plus q s.rest closing) ≡ v =
      words_of-plus_second q s.rest (times (2 ^ (64 - leads.power)) row) ∙ ap words_of (plus-times q (2 ^ (64 - leads.power)) s.rest row)
      ∙ ap (λ (c : ℕ). words_of (plus c s.rest row)) (sym f) ∙ sym s.is in
      rw (← e) (all.sum q s.rest closing s.combination leads.closing)

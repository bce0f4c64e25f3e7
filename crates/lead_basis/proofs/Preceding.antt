-- A row whose lead is before those of all rows of a basis, and what closes it.
use Rattle.std.proofs.Common.{◌≡◌, ℕ, ◌+◌, ◌-◌, ◌*◌, ◌^◌, ◌<◌, inl, inr, List, ◌∷◌, All, Contains, slice_index, ap, sym, ◌∙◌, arith}
use Rattle.std.proofs.lemmas.Bool.{cases_lt}
use Rattle.std.proofs.lemmas.Nat.{pow-add}
use Rattle.word_rows.specs.Words.{word}
use Rattle.word_rows.specs.Rows.{words_of, times, lead, pivot, IsRow}
use Rattle.word_rows.proofs.Laws.{get_or_before_lead, get_or_at_lead, IsRow-times}
use Rattle.row_modules.specs.Modules.{AreRows, IsCombination}
use Rattle.row_modules.specs.Bases.{IsLeadingBasis}
use Rattle.row_modules.proofs.Laws.{combinations, module_multiple}
use Rattle.row_modules.proofs.Laws.{contains_first, rows_with}
use Rattle.lead_basis.specs.Remainders.{IsNormal}
use Rattle.lead_basis.proofs.Positions.{index_of_multiple, zero_at, zero_to, lead_above}
use Rattle.lead_basis.proofs.Leading.{basis_rows}
use Rattle.lead_basis.proofs.Between.{multiple_of}

-- a row whose lead is before those of all old ones
pub record Precedes (n : ℕ) (old : List (List ℕ)) (row own next : List ℕ) : Type 0 where
  pub basis : IsLeadingBasis n old
  pub row_is : IsRow n row
  pub normal : IsNormal n row own
  pub inside : lead row < n
  pub later : All (λ r. lead row < lead r) old
  pub closes : next ≡ words_of (times (2 ^ (64 - normal.power)) own)

pub precedes : (n : ℕ) (old : List (List ℕ)) (row own next : List ℕ) → IsLeadingBasis n old → IsRow n row → IsNormal n row own → lead row < n → All (λ r. lead row < lead r) old
    → ((power : ℕ) → power < 64 → pivot own ≡ 2 ^ power → next ≡ words_of (times (2 ^ (64 - power)) own)) → Precedes n old row own next
precedes n old row own next basis row_is normal inside later closing = record {
  basis = basis;
  row_is = row_is;
  normal = normal;
  inside = inside;
  later = later;
  closes = closing normal.power normal.small normal.is_pivot;
}

module _ {n : ℕ} {old : List (List ℕ)} {row own next : List ℕ} (it : Precedes n old row own next) where
  pub closing_is_row : IsRow n next
  closing_is_row = rw it.closes (IsRow-times n (2 ^ (64 - it.normal.power)) own it.normal.is_row)

  closing_at_lead : slice_index next (lead own) ≡ 0
  closing_at_lead =
      let small = it.normal.small in
      let p = pow-add 2 (64 - it.normal.power) it.normal.power in
      let e : (64 - it.normal.power) + it.normal.power ≡ 64 = omega arith in
      let whole : 2 ^ (64 - it.normal.power) * 2 ^ it.normal.power ≡ 2 ^ 64 = sym p ∙ ap (λ (k : ℕ). 2 ^ k) e in
      ap (λ (x : List ℕ). slice_index x (lead own)) it.closes ∙ index_of_multiple (2 ^ (64 - it.normal.power)) own (lead own)
      ∙ ap (λ (x : ℕ). word (2 ^ (64 - it.normal.power) * x)) it.normal.is_pivot ∙ ap word whole

  pub closing_later : lead row < lead next
  closing_later =
      let e = it.normal.same_lead in
      let h = lead_above n (lead own) next closing_is_row (omega arith)
      (λ k le. elim (cases_lt k (lead own)) [
        | inl lt ↦ ap (λ (x : List ℕ). slice_index x k) it.closes ∙ index_of_multiple (2 ^ (64 - it.normal.power)) own k ∙ ap (λ (x : ℕ). word (2 ^ (64 - it.normal.power) * x)) (get_or_before_lead own k lt) ∙ ap word (let z : 2 ^ (64 - it.normal.power) * 0 ≡ 0 = omega arith in z)
        | inr ge ↦ let same : k ≡ lead own = omega arith in ap (λ (x : ℕ). slice_index next x) same ∙ closing_at_lead
      ]) in
      omega arith

  pub not_member : ¬ IsCombination n (Contains old) row
  not_member m =
      let w = it.row_is.width in
      let z = zero_at n (lead row) (Contains old) (basis_rows n old it.basis) (zero_to (lead row) old it.later (lead row) (omega arith)) row m in
      get_or_at_lead row (omega arith) z

  pub wide : AreRows n (Contains (row ∷ old))
  wide = rows_with n row old it.row_is (basis_rows n old it.basis)

  pub own_in : IsCombination n (Contains (row ∷ old)) own
  own_in = let e = it.normal.is in rw e (multiple_of n it.normal.factor row (row ∷ old) wide (contains_first row old))

  pub closing_in : IsCombination n (Contains (row ∷ old)) next
  closing_in = rw it.closes (module_multiple n (IsCombination n (Contains (row ∷ old))) (combinations n (Contains (row ∷ old)) wide) (2 ^ (64 - it.normal.power)) own own_in)

-- A row with the lead of another and a smaller pivot.
use Rattle.std.proofs.Common.{◌≡◌, ◌≢◌, ℕ, ◌+◌, ◌-◌, ◌*◌, ◌/◌, ◌%◌, ◌^◌, ◌<◌, inl, inr, List, ◌∷◌, Contains, slice_index, ap, sym, ◌∙◌, arith}
use Rattle.std.proofs.Math.Nat.{mul-mod_left}
use Rattle.std.proofs.lemmas.Bool.{cases_lt}
use Rattle.word_rows.specs.Words.{word}
use Rattle.word_rows.specs.Rows.{lead, pivot, IsRow}
use Rattle.row_modules.specs.Modules.{AreRows, IsCombination}
use Rattle.row_modules.specs.Bases.{Leads, IsLeadingBasis}
use Rattle.row_modules.proofs.Laws.{combination_sum, generator}
use Rattle.row_modules.proofs.Laws.{contains_first, contains_later, rows_with}
use Rattle.lead_basis.specs.Remainders.{TakesMultiple, IsNormal}
use Rattle.lead_basis.proofs.Powers.{word_of_multiple, power_quotient, power_divides, multiple_divides}
use Rattle.lead_basis.proofs.Positions.{index_of_multiple}
use Rattle.lead_basis.proofs.Leading.{basis_rows, pivot_divides}
use Rattle.lead_basis.proofs.Taking.{taken_later}
use Rattle.lead_basis.proofs.Between.{multiple_of}
use Rattle.lead_basis.proofs.Passing.{rest_is}

-- a row that meets one with its lead and a greater pivot
pub record Exchanges (n : ℕ) (rest : List (List ℕ)) (first row own next : List ℕ) : Type 0 where
  pub leads : Leads n first rest
  pub basis : IsLeadingBasis n rest
  pub row_is : IsRow n row
  pub normal : IsNormal n row own
  pub same : lead first ≡ lead row
  pub left_over : slice_index row (lead row) % pivot first ≢ 0
  pub takes : TakesMultiple n own first next

module _ {n : ℕ} {rest : List (List ℕ)} {first row own next : List ℕ} (it : Exchanges n rest first row own next) where
  -- the new pivot is smaller
  pub smaller : it.normal.power < it.leads.power
  smaller = elim (cases_lt it.normal.power it.leads.power) [
    | inl lt ↦ lt
    | inr ge ↦
        let t = it.normal.small in
        let e = it.normal.back in
        let at : slice_index row (lead row) ≡ (it.normal.inverse % 2 ^ (64 - it.normal.power)) * 2 ^ it.normal.power =
        ap (λ (x : List ℕ). slice_index x (lead row)) e ∙ index_of_multiple it.normal.inverse own (lead row) ∙ ap (λ (k : ℕ). word (it.normal.inverse * slice_index own k)) (sym it.normal.same_lead)
        ∙ ap (λ (x : ℕ). word (it.normal.inverse * x)) it.normal.is_pivot ∙ word_of_multiple it.normal.inverse (64 - it.normal.power) it.normal.power (omega arith) in
        absurd (it.left_over (ap (λ (x : ℕ). slice_index row (lead row) % x) it.leads.is_pivot ∙ ap (λ (x : ℕ). x % 2 ^ it.leads.power) at ∙ multiple_divides (it.normal.inverse % 2 ^ (64 - it.normal.power)) it.normal.power it.leads.power ge))
  ]

  pub not_spanned : ¬ IsCombination n (Contains (first ∷ rest)) row
  not_spanned m =
      let d = pivot_divides n first rest it.leads (basis_rows n rest it.basis) row m in
      it.left_over (ap (λ (x : ℕ). slice_index row (lead row) % x) it.leads.is_pivot ∙ ap (λ (k : ℕ). slice_index row k % 2 ^ it.leads.power) (sym it.same) ∙ ap (λ (x : ℕ). x % 2 ^ it.leads.power) d.1 ∙ mul-mod_left d.0 (2 ^ it.leads.power))

  pub exchanged_later : lead first < lead next
  exchanged_later =
      let at_lead : slice_index next (lead first) ≡ 0 =
      ap (λ (k : ℕ). slice_index next k) (it.same ∙ sym it.normal.same_lead) ∙ it.takes.left ∙ ap (λ (x : ℕ). slice_index first (lead own) % x) it.normal.is_pivot
      ∙ ap (λ (k : ℕ). slice_index first k % 2 ^ it.normal.power) (it.normal.same_lead ∙ sym it.same)
      ∙ ap (λ (x : ℕ). x % 2 ^ it.normal.power) it.leads.is_pivot ∙ power_divides it.leads.power it.normal.power (let s = smaller in omega arith) in
      taken_later n own first next it.normal.is_row (it.normal.same_lead ∙ sym it.same) it.leads.within it.takes at_lead

  pub quotient : slice_index first (lead own) / pivot own ≡ 2 ^ (it.leads.power - it.normal.power)
  quotient =
      let s = smaller in
      let e : it.leads.power ≡ (it.leads.power - it.normal.power) + it.normal.power = omega arith in
      ap (λ (k : ℕ). slice_index first k / pivot own) (it.normal.same_lead ∙ sym it.same) ∙ ap (λ (x : ℕ). x / pivot own) it.leads.is_pivot ∙ ap (λ (x : ℕ). 2 ^ it.leads.power / x) it.normal.is_pivot
      ∙ ap (λ (k : ℕ). 2 ^ k / 2 ^ it.normal.power) e ∙ power_quotient it.normal.power (it.leads.power - it.normal.power)

  pub all_rows : AreRows n (Contains (row ∷ first ∷ rest))
  all_rows = rows_with n row (first ∷ rest) it.row_is (basis_rows n (first ∷ rest) (it.leads, it.basis))

  pub own_spanned : IsCombination n (Contains (row ∷ first ∷ rest)) own
  own_spanned = let e = it.normal.is in rw e (multiple_of n it.normal.factor row (row ∷ first ∷ rest) all_rows (contains_first row (first ∷ rest)))

  pub next_spanned : IsCombination n (Contains (row ∷ first ∷ rest)) next
  next_spanned =
      let e = rest_is n own first next it.normal.is_row it.takes in
      let f = generator n (Contains (row ∷ first ∷ rest)) all_rows first (contains_later row (first ∷ rest) first (contains_first first rest)) in
      rw e (combination_sum n (Contains (row ∷ first ∷ rest)) all_rows ((2 ^ 64 - 1) * (slice_index first (lead own) / pivot own)) first own f own_spanned)

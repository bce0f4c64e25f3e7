-- A row with the lead of another and a smaller pivot: the other goes to the later rows, less a multiple of it, and it
-- stands in the other's place.
use Rattle.std.proofs.Common.{◌≡◌, ℕ, ◌+◌, ◌-◌, ◌*◌, ◌/◌, ◌^◌, Bool, true, List, ◌∷◌, Contains, slice_index, Ok, Err, ap, sym, ◌∙◌, arith}
use Rattle.std.specs.Int.{w64, trailing_zeros}
use Rattle.std.proofs.Math.Nat.{mul-mod_right}
use Rattle.std.proofs.lemmas.Nat.{pow-add}
use Rattle.word_rows.specs.Words.{word}
use Rattle.word_rows.specs.Rows.{words_of, plus, times, lead, pivot}
use Rattle.row_modules.specs.Modules.{IsCombination}
use Rattle.row_modules.specs.Bases.{Leads, IsLeadingBasis}
use Rattle.row_modules.proofs.Laws.{combination_sum}
use Rattle.row_modules.proofs.Laws.{with_multiple}
use Rattle.lead_basis.specs.Inserts.{IsBetween, Adds}
use Rattle.lead_basis.proofs.Powers.{exponent}
use Rattle.lead_basis.proofs.Positions.{multiple_less}
use Rattle.lead_basis.proofs.Leading.{basis_rows}
use Rattle.lead_basis.proofs.Between.{adds_own, later_within, within_with, later_leads, between_under, between_from}
use Rattle.lead_basis.proofs.Smaller.{Exchanges, smaller, not_spanned, exchanged_later, quotient, all_rows, own_spanned, next_spanned}

module _ {n : ℕ} {rest : List (List ℕ)} {first row own next : List ℕ} (it : Exchanges n rest first row own next) where
  -- where the later rows could not take in what the exchange leaves
  between_refused : (new : List (List ℕ)) → IsBetween n rest next new → IsBetween n (first ∷ rest) row (first ∷ new)
  between_refused new b =
      between_from n (first ∷ rest) next (first ∷ new) (it.leads, it.basis) it.takes.is_row row it.row_is (next_spanned it)
      (between_under n rest next new it.basis it.takes.is_row first it.leads (exchanged_later it) b)

  pub adds_refused : {E : Type 0} (new : List (List ℕ)) (e : E) (before after : ℕ) → Adds n rest next new (Err e) before after → Adds n (first ∷ rest) row (first ∷ new) (Err e) before after
  adds_refused new e before after a = record {
    between = between_refused new a.between;
    added = tt;
    not_grown = tt;
    memory = (not_spanned it);
    never_falls = a.never_falls;
    counts_growth = tt;
    counts_no_more = tt;
    counts_rows = tt;
    bounded = let h = a.bounded in omega arith;
  }

  own_closes : (new : List (List ℕ)) → IsBetween n rest next new → IsCombination n (Contains new) next → IsCombination n (Contains new) (words_of (times (2 ^ (64 - it.normal.power)) own))
  own_closes new b m =
      let s = (smaller it) in
      let small = it.leads.small in
      let k = 2 ^ (64 - it.leads.power) in
      let e : (64 - it.leads.power) + (it.leads.power - it.normal.power) ≡ 64 - it.normal.power = omega arith in
      let product : 2 ^ (64 - it.leads.power) * (slice_index first (lead own) / pivot own) ≡ 2 ^ (64 - it.normal.power) =
      ap (λ (x : ℕ). 2 ^ (64 - it.leads.power) * x) (quotient it) ∙ sym (pow-add 2 (64 - it.leads.power) (it.leads.power - it.normal.power)) ∙ ap (λ (i : ℕ). 2 ^ i) e in
      let whole : (2 ^ 64 - 1) * 2 ^ (64 - it.leads.power) + 2 ^ (64 - it.leads.power) ≡ 2 ^ 64 * 2 ^ (64 - it.leads.power) = omega arith in
      let closing = b.kept (words_of (times (2 ^ (64 - it.leads.power)) first)) it.leads.closing in
      let less = multiple_less n ((2 ^ 64 - 1) * 2 ^ (64 - it.leads.power)) (2 ^ (64 - it.leads.power)) (slice_index first (lead own) / pivot own) next own it.takes.is_row it.normal.is_row (ap word whole ∙ mul-mod_right (2 ^ 64) (2 ^ (64 - it.leads.power))) in
      let same_row : words_of (plus ((2 ^ 64 - 1) * 2 ^ (64 - it.leads.power)) (words_of (times (2 ^ (64 - it.leads.power)) first)) next) ≡ words_of (times (2 ^ (64 - it.normal.power)) own) =
      ap (λ (x : List ℕ). words_of (plus ((2 ^ 64 - 1) * 2 ^ (64 - it.leads.power)) (words_of (times (2 ^ (64 - it.leads.power)) x)) next)) it.takes.is ∙ less ∙ ap (λ (x : ℕ). words_of (times x own)) product in
      rw (← same_row) (combination_sum n (Contains new) (basis_rows n new b.basis) ((2 ^ 64 - 1) * 2 ^ (64 - it.leads.power)) (words_of (times (2 ^ (64 - it.leads.power)) first)) next closing m)

  own_leads : (new : List (List ℕ)) → IsBetween n rest next new → IsCombination n (Contains new) next → Leads n own new
  own_leads new b m = record {
    is_row = it.normal.is_row;
    within = let e = it.normal.same_lead in let w = it.leads.within in omega arith;
    power = it.normal.power;
    small = it.normal.small;
    is_pivot = it.normal.is_pivot;
    later = let e = it.normal.same_lead ∙ sym it.same in rw e (later_leads n rest next new it.basis it.takes.is_row (lead first) it.leads.within it.leads.later (exchanged_later it) b);
    closing = own_closes new b m;
  }

  between_exchanged : (new : List (List ℕ)) → IsBetween n rest next new → IsCombination n (Contains new) next → IsBetween n (first ∷ rest) row (own ∷ new)
  between_exchanged new b m =
      let new_basis : IsLeadingBasis n (own ∷ new) = (own_leads new b m, b.basis) in
      let new_rows = basis_rows n (own ∷ new) new_basis in
      let first_in : IsCombination n (Contains (own ∷ new)) first = let e = it.takes.is in rw e (with_multiple n own new it.normal.is_row (basis_rows n new b.basis) (slice_index first (lead own) / pivot own) next m) in
      record {
        basis = new_basis;
        kept = within_with n first rest (own ∷ new) new_rows first_in (λ v h. later_within n own new v (b.kept v h)) (basis_rows n rest it.basis);
        within = within_with n own new (row ∷ first ∷ rest) (all_rows it) (own_spanned it)
            (λ v h. within_with n next rest (row ∷ first ∷ rest) (all_rows it) (next_spanned it) (λ u i. later_within n row (first ∷ rest) u (later_within n first rest u i)) (basis_rows n rest it.basis) v (b.within v h))
            (basis_rows n new b.basis);
      }

  pub adds_exchanged : {E : Type 0} (new : List (List ℕ)) (grew : Bool) (before after : ℕ) → Adds {E = E} n rest next new (Ok grew) before after → Adds {E = E} n (first ∷ rest) row (own ∷ new) (Ok true) before (after + 1)
  adds_exchanged new grew before after a =
      let s = (smaller it) in
      let small = it.leads.small in
      let t : trailing_zeros w64 (pivot own) ≡ it.normal.power = ap (λ (x : ℕ). trailing_zeros w64 x) it.normal.is_pivot ∙ exponent it.normal.power it.normal.small in
      let u : trailing_zeros w64 (pivot first) ≡ it.leads.power = ap (λ (x : ℕ). trailing_zeros w64 x) it.leads.is_pivot ∙ exponent it.leads.power it.leads.small in
      adds_own n (first ∷ rest) row own new before after it.normal (between_exchanged new a.between a.added) (not_spanned it) a.never_falls
      (let h = a.counts_rows in omega arith) (let h = a.bounded in omega (arith, t, u))

-- A row with a new lead: what closes it goes to the later rows, and it stands before them.
use Rattle.std.proofs.Common.{◌≡◌, ℕ, ◌+◌, Bool, true, List, ◌∷◌, Contains, Result, Ok, Err, ap, ◌∙◌, arith}
use Rattle.std.specs.Int.{w64, trailing_zeros}
use Rattle.word_rows.specs.Rows.{lead, pivot}
use Rattle.row_modules.specs.Modules.{IsCombination}
use Rattle.row_modules.specs.Bases.{Leads}
use Rattle.lead_basis.specs.Inserts.{IsBetween, Adds}
use Rattle.lead_basis.proofs.Powers.{exponent}
use Rattle.lead_basis.proofs.Leading.{basis_rows}
use Rattle.lead_basis.proofs.Between.{later_within, within_with, later_leads, between_from, adds_own}
use Rattle.lead_basis.proofs.Preceding.{Precedes, closing_is_row, closing_later, not_member, wide, own_in, closing_in}

module _ {n : ℕ} {old : List (List ℕ)} {row own next : List ℕ} (it : Precedes n old row own next) where
  between_kept : (new : List (List ℕ)) → IsBetween n old next new → IsBetween n old row new
  between_kept new b = between_from n old next new it.basis (closing_is_row it) row it.row_is (closing_in it) b

  own_leads : (new : List (List ℕ)) → IsBetween n old next new → IsCombination n (Contains new) next → Leads n own new
  own_leads new b m = record {
    is_row = it.normal.is_row;
    within = let e = it.normal.same_lead in omega arith;
    power = it.normal.power;
    small = it.normal.small;
    is_pivot = it.normal.is_pivot;
    later = let e = it.normal.same_lead in rw e (later_leads n old next new it.basis (closing_is_row it) (lead row) it.inside it.later (closing_later it) b);
    closing = rw (← it.closes) m;
  }

  between_new : (new : List (List ℕ)) → IsBetween n old next new → IsCombination n (Contains new) next → IsBetween n old row (own ∷ new)
  between_new new b m = record {
    basis = (own_leads new b m, b.basis);
    kept = λ v h. later_within n own new v (b.kept v h);
    within = within_with n own new (row ∷ old) (wide it) (own_in it) (between_kept new b).within (basis_rows n new b.basis);
  }

  -- where the row itself can't be put, or what it.closes it
  pub adds_kept : {E : Type 0} (new : List (List ℕ)) (result : Result Bool E) (e : E) (before after : ℕ) → Adds n old next new result before after → Adds n old row new (Err e) before after
  adds_kept new result e before after a = record {
    between = between_kept new a.between;
    added = tt;
    not_grown = tt;
    memory = (not_member it);
    never_falls = a.never_falls;
    counts_growth = tt;
    counts_no_more = tt;
    counts_rows = tt;
    bounded = a.bounded;
  }

  pub adds_new : {E : Type 0} (new : List (List ℕ)) (grew : Bool) (before after : ℕ) → Adds {E = E} n old next new (Ok grew) before after → Adds {E = E} n old row (own ∷ new) (Ok true) before (after + 1)
  adds_new new grew before after a =
      let small = it.normal.small in
      let t : trailing_zeros w64 (pivot own) ≡ it.normal.power = ap (λ (x : ℕ). trailing_zeros w64 x) it.normal.is_pivot ∙ exponent it.normal.power it.normal.small in
      adds_own n old row own new before after it.normal (between_new new a.between a.added) (not_member it) a.never_falls a.counts_rows (let h = a.bounded in omega (arith, t))

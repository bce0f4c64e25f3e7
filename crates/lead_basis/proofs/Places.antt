-- Adding a row to the rows of a list from one place on.
use Rattle.std.proofs.Common.{◌≡◌, ◌≢◌, ℕ, suc, ◌+◌, ◌%◌, ◌<◌, ◌≤◌, min, Bool, true, List, ◌∷◌, ◌++◌, length, get_or, take, drop, set, slice_index, Result, Ok, Err, ap, sym, subst, ◌∙◌, arith, add-one}
use Rattle.std.specs.List.{insert}
use Rattle.std.proofs.Math.Seq.{drop-cons, drop-append_seam}
use Rattle.std.proofs.lemmas.List.{take-take, get_or-take, length-take, take-set, drop-set, take-append-le}
use Rattle.word_rows.specs.Rows.{lead, pivot, IsRow}
use Rattle.row_modules.specs.Bases.{Leads, IsLeadingBasis}
use Rattle.lead_basis.specs.Remainders.{TakesMultiple, IsNormal}
use Rattle.lead_basis.specs.Inserts.{AddsFrom}
use Rattle.lead_basis.proofs.Passing.{adds_passed}
use Rattle.lead_basis.proofs.Preceding.{Precedes}
use Rattle.lead_basis.proofs.Adding.{adds_kept, adds_new}
use Rattle.lead_basis.proofs.Smaller.{Exchanges}
use Rattle.lead_basis.proofs.Exchanging.{adds_refused, adds_exchanged}

-- two lists with one front of one item more
pub record Fronts (at : ℕ) (d : List ℕ) (old new : List (List ℕ)) : Type 0 where
  pub below : at < length new
  pub front : take at new ≡ take at old
  pub old_is : drop at old ≡ get_or old at d ∷ drop (suc at) old
  pub new_is : drop at new ≡ get_or old at d ∷ drop (suc at) new

pub fronts : (at : ℕ) (d : List ℕ) (old new : List (List ℕ)) → at < length old → take (suc at) new ≡ take (suc at) old → Fronts at d old new
fronts at d old new below e =
    let sizes : min (suc at) (length new) ≡ min (suc at) (length old) = sym (length-take (suc at) new) ∙ ap (λ (x : List (List ℕ)). length x) e ∙ length-take (suc at) old in
    let inside : at < length new = omega arith in
    let item : get_or new at d ≡ get_or old at d = sym (get_or-take (suc at) new at d (omega arith)) ∙ ap (λ (x : List (List ℕ)). get_or x at d) e ∙ get_or-take (suc at) old at d (omega arith) in
    record {
      below = inside;
      front = sym (take-take at (suc at) new (omega arith)) ∙ ap (λ (x : List (List ℕ)). take at x) e ∙ take-take at (suc at) old (omega arith);
      old_is = drop-cons old at d below;
      new_is = drop-cons new at d inside ∙ ap (λ (x : List ℕ). x ∷ drop (suc at) new) item;
    }

-- a later part of a basis is one
pub basis_after : (n : ℕ) (rows : List (List ℕ)) (i : ℕ) (d : List ℕ) → i < length rows → IsLeadingBasis n (drop i rows) → Leads n (get_or rows i d) (drop (suc i) rows) × IsLeadingBasis n (drop (suc i) rows)
basis_after n rows i d below b = subst (λ (x : List (List ℕ)). IsLeadingBasis n x) (drop-cons rows i d below) b

module _ {E : Type 0} (n at : ℕ) (old : List (List ℕ)) (row : List ℕ) (below : at < length old) (basis : IsLeadingBasis n (drop at old)) (row_is : IsRow n row) where
  pub adds_from_passed : (d next : List ℕ) (new : List (List ℕ)) (result : Result Bool E) (before after : ℕ) → TakesMultiple n (get_or old at d) row next → lead (get_or old at d) < lead next → AddsFrom n (suc at) old next new result before after → AddsFrom n at old row new result before after
  adds_from_passed d next new result before after t later a =
      let f = fronts at d old new below a.front in
      let b = basis_after n old at d below basis in
      let h = adds_passed n (get_or old at d) row next (drop (suc at) old) b.0 b.1 row_is t later (drop (suc at) new) result before after a.adds in
      let old_is = f.old_is in let new_is = f.new_is in
      record { front = f.front; adds = rw (old_is, new_is) h }

-- a row that meets the one at a place
pub exchanges : (n at : ℕ) (rows : List (List ℕ)) → at < length rows → IsLeadingBasis n (drop at rows) → (row other own next : List ℕ) → IsRow n row → other ≡ get_or rows at other → IsNormal n row own → lead (get_or rows at other) ≡ lead row → slice_index row (lead row) % pivot (get_or rows at other) ≢ 0 → (lead own < n → TakesMultiple n own other next) → Exchanges n (drop (suc at) rows) (get_or rows at other) row own next
exchanges n at rows below basis row other own next row_is is normal same left takes =
    let b = basis_after n rows at other below basis in
    let w = b.0.within in let s = normal.same_lead in
    record {
      leads = b.0;
      basis = b.1;
      row_is = row_is;
      normal = normal;
      same = same;
      left_over = left;
      takes = subst (λ (x : List ℕ). TakesMultiple n own x next) is (takes (omega arith));
    }

module _ {E : Type 0} (n at : ℕ) (old : List (List ℕ)) (below : at < length old) (row d own next : List ℕ) (x : Exchanges n (drop (suc at) old) (get_or old at d) row own next) where
  pub adds_from_refused : (new : List (List ℕ)) (e : E) (before after : ℕ) → AddsFrom n (suc at) old next new (Err e) before after → AddsFrom n at old row new (Err e) before after
  adds_from_refused new e before after a =
      let f = fronts at d old new below a.front in
      let h = adds_refused x (drop (suc at) new) e before after a.adds in
      let old_is = f.old_is in let new_is = f.new_is in
      record { front = f.front; adds = rw (old_is, new_is) h }

  pub adds_from_exchanged : (new : List (List ℕ)) (grew : Bool) (before after : ℕ) → AddsFrom {E = E} n (suc at) old next new (Ok grew) before after → AddsFrom {E = E} n at old row (set new at own) (Ok true) before (after + 1)
  adds_from_exchanged new grew before after a =
      let f = fronts at d old new below a.front in
      let h = adds_exchanged x (drop (suc at) new) grew before after a.adds in
      let old_is = f.old_is in
      let new_is : drop at (set new at own) ≡ own ∷ drop (suc at) new = drop-set new at own f.below ∙ ap (λ (k : ℕ). own ∷ drop k new) (add-one at) in
      record { front = take-set new at own ∙ f.front; adds = rw (old_is, new_is) h }

module _ {E : Type 0} (n at : ℕ) (old : List (List ℕ)) (within : at ≤ length old) (row own next : List ℕ) (x : Precedes n (drop at old) row own next) where
  pub adds_from_kept : (new : List (List ℕ)) (result : Result Bool E) (e : E) (before after : ℕ) → AddsFrom n at old next new result before after → AddsFrom n at old row new (Err e) before after
  adds_from_kept new result e before after a = record { front = a.front; adds = adds_kept x (drop at new) result e before after a.adds }

  pub adds_from_new : (new : List (List ℕ)) (grew : Bool) (before after : ℕ) → AddsFrom {E = E} n at old next new (Ok grew) before after → AddsFrom {E = E} n at old row (insert new at own) (Ok true) before (after + 1)
  adds_from_new new grew before after a =
      let sizes : min at (length new) ≡ min at (length old) = sym (length-take at new) ∙ ap (λ (x : List (List ℕ)). length x) a.front ∙ length-take at old in
      let size : length (take at new) ≡ at = length-take at new ∙ (let s : min at (length new) ≡ at = omega arith in s) in
      let front : take at (insert new at own) ≡ take at new = take-append-le at (take at new) (own ∷ drop at new) (omega arith) ∙ take-take at at new (omega arith) in
      let back : drop at (insert new at own) ≡ own ∷ drop at new = ap (λ (k : ℕ). drop k (take at new ++ own ∷ drop at new)) (sym size) ∙ drop-append_seam (take at new) (own ∷ drop at new) in
      record { front = front ∙ a.front; adds = rw back (adds_new x (drop at new) grew before after a.adds) }

-- Modules at places, one of which takes a row.
use Rattle.std.proofs.Common.{◌≡◌, ℕ, ◌<◌, ◌+◌, ◌⊎◌, inl, inr, List, [], ◌∷◌, Contains, length, get_or, set, ap, sym, subst, ◌∙◌, arith}
use Rattle.std.proofs.lemmas.Bool.{cases_eq}
use Rattle.std.proofs.lemmas.List.{get_or-set_same, get_or-set_other, get_or_default}
use Rattle.std.proofs.lemmas.List.Sums.{sum_by-set}
use Rattle.word_rows.specs.Rows.{IsRow}
use Rattle.row_modules.specs.Modules.{AreRows, IsCombination, SameModule}
use Rattle.row_modules.specs.Bases.{IsLeadingBasis, basis_length}
use Rattle.row_modules.proofs.Laws.{spans_more, first_or_later, contains_first, contains_later, generator, within_from_generators}
use Rattle.lead_basis.proofs.Laws.{basis_rows}
use Rattle.affine_prog.specs.Spans.{rows_at}
use Rattle.refute_path.specs.Arenas.{total}

same_then : (n : ℕ) (P Q R : List ℕ → Type 0) → SameModule n P Q → SameModule n Q R → SameModule n P R
same_then n P Q R a b = record { there = λ v h. b.there v (a.there v h); back = λ v h. a.back v (b.back v h) }

module _ (n : ℕ) (old : List (List (List ℕ))) (At : ℕ → List ℕ → Type 0) (are : (u : ℕ) → AreRows n (At u)) (old_same : (u : ℕ) → SameModule n (Contains (rows_at old u)) (At u))
    (to : ℕ) (row : List ℕ) (basis new : List (List ℕ)) (within : to < length old) (is : basis ≡ get_or old to basis) (is_row : IsRow n row)
    (is_basis : IsLeadingBasis n basis) (same : SameModule n (Contains new) (Contains (row ∷ basis))) where
  own : rows_at old to ≡ basis
  own = get_or_default old to [] basis within ∙ sym is

  at_place : rows_at (set old to new) to ≡ new
  at_place = get_or-set_same old to new [] within

  own_same : SameModule n (Contains basis) (At to)
  own_same = subst (λ rows. SameModule n (Contains rows) (At to)) own (old_same to)

  others : (F : ℕ → List (List ℕ) → Type 0) → F to new → ((v : ℕ) → (v ≡ to → ⊥) → F v (rows_at old v)) → (v : ℕ) → F v (rows_at (set old to new) v)
  others F here there v = elim (cases_eq v to) [
    | inl e ↦ rw e (subst (F to) (sym at_place) here)
    | inr other ↦ subst (F v) (sym (get_or-set_other old to v new [] other)) (there v other)
  ]

  with_row : AreRows n (Contains (row ∷ basis))
  with_row x i = elim (first_or_later row basis x i) [ inl e ↦ rw e is_row | inr k ↦ basis_rows n basis is_basis x k ]

  pub longer : total old + basis_length new ≡ total (set old to new) + basis_length basis
  longer = let e = sum_by-set basis_length old to new [] within in let f = ap basis_length own in omega arith

  -- the row was in the module already
  pub known_there : IsCombination n (Contains basis) row → IsCombination n (At to) row
  known_there known = own_same.there row known

  pub same_stays : IsCombination n (Contains basis) row → (v : ℕ) → SameModule n (Contains (rows_at (set old to new) v)) (At v)
  same_stays known = others (λ v rows. SameModule n (Contains rows) (At v))
      (same_then n (Contains new) (Contains (row ∷ basis)) (At to) same (same_then n (Contains (row ∷ basis)) (Contains basis) (At to) (record {
        there = within_from_generators n (Contains (row ∷ basis)) (Contains basis) (basis_rows n basis is_basis)
            (λ x i. elim (first_or_later row basis x i) [ inl e ↦ rw e known | inr k ↦ generator n (Contains basis) (basis_rows n basis is_basis) x k ]);
        back = spans_more n (Contains basis) (Contains (row ∷ basis)) (contains_later row basis);
      }) own_same))
      (λ v other. old_same v)

  -- the row is placed
  module _ (New : ℕ → List ℕ → Type 0) (new_are : (u : ℕ) → AreRows n (New u)) (more : (v : ℕ) (m : List ℕ) → At v m → New v m)
      (either : (v : ℕ) (m : List ℕ) → New v m → At v m ⊎ ((v ≡ to) × (m ≡ row))) (here : New to row) where
    pub same_grows : (v : ℕ) → SameModule n (Contains (rows_at (set old to new) v)) (New v)
    same_grows = others (λ v rows. SameModule n (Contains rows) (New v))
        (same_then n (Contains new) (Contains (row ∷ basis)) (New to) same (record {
          there = within_from_generators n (Contains (row ∷ basis)) (New to) (new_are to)
              (λ x i. elim (first_or_later row basis x i) [
                | inl e ↦ rw e (generator n (New to) (new_are to) row here)
                | inr k ↦ spans_more n (At to) (New to) (more to) x (own_same.there x (generator n (Contains basis) (basis_rows n basis is_basis) x k))
              ]);
          back = within_from_generators n (New to) (Contains (row ∷ basis)) with_row
              (λ x i. elim (either to x i) [
                | inl k ↦ spans_more n (Contains basis) (Contains (row ∷ basis)) (contains_later row basis) x (own_same.back x (generator n (At to) (are to) x k))
                | inr e ↦ let f = e.1 in rw f (generator n (Contains (row ∷ basis)) with_row row (contains_first row basis))
              ]);
        }))
        (λ v other. same_then n (Contains (rows_at old v)) (At v) (New v) (old_same v) (record {
          there = spans_more n (At v) (New v) (more v);
          back = spans_more n (New v) (At v) (λ x i. elim (either v x i) [ inl k ↦ k | inr e ↦ absurd (other e.0) ]);
        }))

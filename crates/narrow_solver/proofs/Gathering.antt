-- The loops over the rows of a basis: what is left of them, and what was inserted.
use Rattle.std.proofs.Common.{◌≡◌, ℕ, ◌+◌, ◌<◌, ◌≤◌, inl, inr, List, [], ◌∷◌, length, take, get_or, map, Contains, ap, sym, ◌∙◌, take_all}
use Rattle.std.proofs.lemmas.List.{take_more}
use Rattle.std.proofs.lemmas.List.Elements.{Contains-push_cases}
use Rattle.row_modules.specs.Modules.{AreRows, IsCombination, IsWithin, SameModule}
use Rattle.row_modules.specs.Bases.{IsLeadingBasis}
use Rattle.row_modules.proofs.Laws.{generator, spans_more, contains_later, first_or_later, nothing_contained, within_from_generators}
use Rattle.lead_basis.proofs.Laws.{basis_rows, empty_span}
use Rattle.row_modules.specs.Modules.{none}
use Rattle.narrow_solver.specs.Narrow.{scaled}
use Rattle.narrow_solver.proofs.Scaling.{mapped_contains, mapped_from, mapped_rows}

-- a basis that has the multiples by 2^32 of the first i rows
pub record HasScaled (rows basis : List (List ℕ)) (i : ℕ) : Type 0 where
  pub is_basis : IsLeadingBasis 17 basis
  pub inside : IsWithin 17 (Contains basis) (Contains (map scaled rows))
  pub all : (v : List ℕ) → Contains (take i rows) v → IsCombination 17 (Contains basis) (scaled v)

module _ (rows : List (List ℕ)) (are : AreRows 17 (Contains rows)) where
  pub scaled_none : HasScaled rows [] 0
  scaled_none = record {
    is_basis = tt;
    inside = λ v m. none v (empty_span 17 v m);
    all = λ v h. absurd (nothing_contained v h);
  }

  pub scaled_more : (basis : List (List ℕ)) (row own : List ℕ) (new : List (List ℕ)) (i : ℕ) → i < length rows → row ≡ get_or rows i row → own ≡ scaled row → IsLeadingBasis 17 new → IsCombination 17 (Contains new) own → SameModule 17 (Contains new) (Contains (own ∷ basis)) → HasScaled rows basis i → HasScaled rows new (i + 1)
  scaled_more basis row own new i below is own_is b here same h = record {
    is_basis = b;
    inside = λ v m.
        within_from_generators 17 (Contains (own ∷ basis)) (Contains (map scaled rows)) (mapped_rows 17 rows are)
        (λ u j. elim (first_or_later own basis u j) [
          | inl e ↦ let f : u ≡ scaled row = e ∙ own_is in
              rw f (generator 17 (Contains (map scaled rows)) (mapped_rows 17 rows are) (scaled row) (mapped_contains rows row (i, below, sym is)))
          | inr k ↦ h.inside u (generator 17 (Contains basis) (basis_rows 17 basis h.is_basis) u k)
        ]) v (same.there v m);
    all = λ v c.
        let one = take_more rows i row below in
        elim (Contains-push_cases (take i rows) (get_or rows i row) v (rw one at c)) [
          | inl j ↦ same.back (scaled v) (spans_more 17 (Contains basis) (Contains (own ∷ basis)) (contains_later own basis) (scaled v) (h.all v j))
          | inr e ↦ let f : own ≡ scaled v = own_is ∙ ap scaled (is ∙ e) in rw (← f) here
        ];
  }

  pub scaled_all : (basis : List (List ℕ)) (i : ℕ) → length rows ≤ i → HasScaled rows basis i → SameModule 17 (Contains basis) (Contains (map scaled rows))
  scaled_all basis i le h = record {
    there = h.inside;
    back = within_from_generators 17 (Contains (map scaled rows)) (Contains basis) (basis_rows 17 basis h.is_basis)
        (λ v j. let f = mapped_from rows v j in let e = f.is in let whole = take_all i rows le in rw e (h.all f.of (rw whole f.there)));
  }

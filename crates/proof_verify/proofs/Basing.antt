-- A basis to which rows are added one by one has their module.
use Rattle.std.proofs.Common.{◌≡◌, ℕ, ◌+◌, ◌<◌, inl, inr, List, [], ◌∷◌, ◌++◌, Contains, length, take, drop, get_or, ap, sym, subst, ◌∙◌}
use Rattle.std.proofs.lemmas.List.{take_more, take-append-drop}
use Rattle.std.proofs.lemmas.List.Elements.{Contains-push, Contains-push_cases, Contains-append_left}
use Rattle.row_modules.specs.Modules.{AreRows, IsCombination, SameModule}
use Rattle.row_modules.specs.Bases.{IsLeadingBasis}
use Rattle.row_modules.proofs.Laws.{contains_first, contains_later, first_or_later, generator, spans_more, within_from_generators}
use Rattle.lead_basis.proofs.Laws.{basis_rows}
use Rattle.proof_verify.specs.RowBases.{IsBasisOfRows}

pub no_rows : (n : ℕ) → IsBasisOfRows n [] []
no_rows n = record { is_basis = tt; same = record { there = λ v h. h; back = λ v h. h } }

module _ (n : ℕ) (rows : List (List ℕ)) (are : AreRows n (Contains rows)) (i : ℕ) (row : List ℕ) (below : i < length rows) (is : row ≡ get_or rows i row) (basis new : List (List ℕ))
    (so_far : IsBasisOfRows n (take i rows) basis) (leads : IsLeadingBasis n new) (same : SameModule n (Contains new) (Contains (row ∷ basis))) where
  one_more : take (i + 1) rows ≡ take i rows ++ row ∷ []
  one_more = take_more rows i row below ∙ ap (λ x. take i rows ++ x ∷ []) (sym is)

  part : (v : List ℕ) → Contains (take i rows ++ row ∷ []) v → Contains rows v
  part v h = subst (λ xs. Contains xs v) (take-append-drop (i + 1) rows) (Contains-append_left (take (i + 1) rows) (drop (i + 1) rows) v (rw one_more h))

  taken : AreRows n (Contains (take i rows ++ row ∷ []))
  taken v h = are v (part v h)

  basis_are : AreRows n (Contains (row ∷ basis))
  basis_are v h = elim (first_or_later row basis v h) [ inl e ↦ rw e (taken row (Contains-push (take i rows) row)) | inr l ↦ basis_rows n basis so_far.is_basis v l ]

  pub more_rows : IsBasisOfRows n (take (i + 1) rows) new
  more_rows = rw one_more (record {
    is_basis = leads;
    same = record {
      there = λ v h. within_from_generators n (Contains (row ∷ basis)) (Contains (take i rows ++ row ∷ [])) taken
          (λ u k. elim (first_or_later row basis u k) [
            | inl e ↦ generator n (Contains (take i rows ++ row ∷ [])) taken u (rw e (Contains-push (take i rows) row))
            | inr l ↦ spans_more n (Contains (take i rows)) (Contains (take i rows ++ row ∷ [])) (λ x j. Contains-append_left (take i rows) (row ∷ []) x j) u
                (so_far.same.there u (generator n (Contains basis) (basis_rows n basis so_far.is_basis) u l))
          ]) v (same.there v h);
      back = within_from_generators n (Contains (take i rows ++ row ∷ [])) (Contains new) (basis_rows n new leads)
          (λ u k. same.back u (elim (Contains-push_cases (take i rows) row u k) [
            | inl old ↦ spans_more n (Contains basis) (Contains (row ∷ basis)) (contains_later row basis) u
                (so_far.same.back u (generator n (Contains (take i rows)) (λ x j. taken x (Contains-append_left (take i rows) (row ∷ []) x j)) u old))
            | inr e ↦ subst (IsCombination n (Contains (row ∷ basis))) e (generator n (Contains (row ∷ basis)) basis_are row (contains_first row basis))
          ]));
    };
  })

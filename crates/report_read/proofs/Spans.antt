-- What rows span, one row more.
use Rattle.std.proofs.Common.{◌≡◌, ℕ, ◌+◌, ◌<◌, inl, inr, List, [], ◌∷◌, ◌++◌, length, get_or, take, Contains, refl, sym, subst, ap, ◌∙◌}
use Rattle.std.proofs.lemmas.List.{take_more}
use Rattle.std.proofs.lemmas.List.Elements.{Contains-push, Contains-push_cases, Contains-append_left}
use Rattle.std.proofs.Common.{rules, Bool, true, false}
use Rattle.std.specs.Bool.{Decides, IsTrue}
use Rattle.row_modules.specs.Bases.{IsLeadingBasis, IsReduced}
use Rattle.word_rows.specs.Rows.{IsRow}
use Rattle.row_modules.specs.Modules.{AreRows, Either, SameModule}
use Rattle.row_modules.proofs.Unions.{same_with, same_members, either_same, same_first}

push_rows : (seen : List (List ℕ)) (row : List ℕ) → AreRows 17 (Contains seen) → IsRow 17 row
    → AreRows 17 (Contains (seen ++ row ∷ []))
push_rows seen row rows own v h = elim (Contains-push_cases seen row v h) [ inl k ↦ rows v k | inr e ↦ subst (IsRow 17) e own ]

push_same : (seen old new : List (List ℕ)) (row : List ℕ) → AreRows 17 (Contains seen) → AreRows 17 (Contains old) → IsRow 17 row
    → SameModule 17 (Contains old) (Contains seen) → SameModule 17 (Contains new) (Contains (row ∷ old))
    → SameModule 17 (Contains new) (Contains (seen ++ row ∷ []))
push_same seen old new row seen_rows old_rows own so_far grown =
    let one : AreRows 17 (λ v. v ≡ row) = λ v e. subst (IsRow 17) (sym e) own in
    same_with 17 (Contains new) (Contains (row ∷ old)) (Contains (seen ++ row ∷ [])) grown
    (same_with 17 (Contains (row ∷ old)) (Either (Contains old) (λ v. v ≡ row)) (Contains (seen ++ row ∷ [])) (same_first 17 row old)
    (same_with 17 (Either (Contains old) (λ v. v ≡ row)) (Either (Contains seen) (λ v. v ≡ row)) (Contains (seen ++ row ∷ []))
    (either_same 17 (Contains old) (λ v. v ≡ row) (Contains seen) (λ v. v ≡ row) old_rows one seen_rows one so_far (same_members 17 (λ v. v ≡ row) (λ v. v ≡ row) (λ v e. e) (λ v e. e)))
    (same_members 17 (Either (Contains seen) (λ v. v ≡ row)) (Contains (seen ++ row ∷ []))
    (λ v h. elim h [ inl k ↦ Contains-append_left seen (row ∷ []) v k | inr e ↦ subst (Contains (seen ++ row ∷ [])) (sym e) (Contains-push seen row) ])
    (λ v h. elim (Contains-push_cases seen row v h) [ inl k ↦ inl k | inr e ↦ inr (sym e) ]))))

module _ (rows : List (List ℕ)) (i : ℕ) (row : List ℕ) (below : i < length rows) (is : row ≡ get_or rows i row) (seen_rows : AreRows 17 (Contains (take i rows))) (own : IsRow 17 row) where
  one_more : take i rows ++ row ∷ [] ≡ take (i + 1) rows
  one_more = ap (λ (r : List ℕ). take i rows ++ r ∷ []) is ∙ sym (take_more rows i row below)

  pub rows_more : AreRows 17 (Contains (take (i + 1) rows))
  rows_more = subst (λ (xs : List (List ℕ)). AreRows 17 (Contains xs)) one_more (push_rows (take i rows) row seen_rows own)

  pub same_more : (old new : List (List ℕ)) → AreRows 17 (Contains old) → SameModule 17 (Contains old) (Contains (take i rows))
      → SameModule 17 (Contains new) (Contains (row ∷ old)) → SameModule 17 (Contains new) (Contains (take (i + 1) rows))
  same_more old new old_rows so_far grown =
      subst (λ (xs : List (List ℕ)). SameModule 17 (Contains new) (Contains xs)) one_more (push_same (take i rows) old new row seen_rows old_rows own so_far grown)

-- rows that are equal to the reduced basis are one, and no other rows are
pub decided : (rows basis : List (List ℕ)) (b : Bool) → Decides b (basis ≡ rows) → IsLeadingBasis 17 basis → IsReduced basis
    → (IsLeadingBasis 17 rows → IsReduced rows → rows ≡ basis)
    → (IsTrue b → IsLeadingBasis 17 rows × IsReduced rows) × (IsLeadingBasis 17 rows × IsReduced rows → IsTrue b)
decided rows basis true d leads reduced unique = (λ h. (subst (IsLeadingBasis 17) (d.0 refl) leads, subst IsReduced (d.0 refl) reduced), λ h. search rules)
decided rows basis false d leads reduced unique = (λ h. absurd (search rules), λ h. let e : false ≡ true = d.1 (sym (unique h.0 h.1)) in absurd cc)

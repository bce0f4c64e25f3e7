-- Rows that are written, and marked.
use Rattle.std.proofs.Common.{set, subst, ◌≡◌, ℕ, ◌<◌, ◌⊎◌, inl, inr, Bool, true, List, ◌∷◌, ◌++◌, take, drop, All, Contains, slice_index, Result, Ok, refl, ap, ◌∙◌}
use Rattle.std.specs.List.{insert}
use Rattle.std.proofs.lemmas.List.Elements.{All-set, All-weaker, All-append, All-cons, All-take, All-drop, All-contains, All-contains_itself}
use Rattle.word_rows.specs.Rows.{lead}
use Rattle.lead_basis.specs.Marks.{Marks, Writes}

module _ (xs : List (List ℕ)) (i : ℕ) (a : List ℕ) where
  all_either : All (λ y. (y ≡ a) ⊎ Contains xs y) xs
  all_either = All-weaker (Contains xs) (λ y. (y ≡ a) ⊎ Contains xs y) (λ y k. inr k) xs (All-contains_itself xs)

  pub set_cases : (r : List ℕ) → Contains (set xs i a) r → (r ≡ a) ⊎ Contains xs r
  set_cases r h = All-contains (λ y. (y ≡ a) ⊎ Contains xs y) (set xs i a) r (All-set (λ y. (y ≡ a) ⊎ Contains xs y) xs i a (inl refl) all_either) h

  pub insert_cases : (r : List ℕ) → Contains (insert xs i a) r → (r ≡ a) ⊎ Contains xs r
  insert_cases r h =
      All-contains (λ y. (y ≡ a) ⊎ Contains xs y) (take i xs ++ a ∷ drop i xs) r
      (All-append (λ y. (y ≡ a) ⊎ Contains xs y) (take i xs) (a ∷ drop i xs)
      (All-take (λ y. (y ≡ a) ⊎ Contains xs y) i xs all_either)
      (All-cons (λ y. (y ≡ a) ⊎ Contains xs y) a (drop i xs) (inl refl) (All-drop (λ y. (y ≡ a) ⊎ Contains xs y) i xs all_either)))
      h

-- one row more is written, and its lead marked
pub writes_own : {E : Type 0} (n : ℕ) (old mid new : List (List ℕ)) (row own before middle after : List ℕ) (result : Result Bool E)
    → Writes old mid result before middle → Marks n row middle after → lead row < n → lead own ≡ lead row
    → ((r : List ℕ) → Contains new r → (r ≡ own) ⊎ Contains mid r) → Writes {E = E} old new (Ok true) before after
writes_own n old mid new row own before middle after result w m inside same cases = record {
  frame = λ r h u. elim (cases r h) [
    | inl e ↦ absurd (m.here inside (subst (λ (k : ℕ). slice_index after k ≡ 0) (ap lead e ∙ same) u))
    | inr k ↦ w.frame r k (m.kept (lead r) u)
  ];
  kept = λ k z. w.kept k (m.kept k z);
  quiet = λ h. absurd (cc);
}

-- Members of a list with one more, and modules of the rows of a list, and of a list with one row more.
use Rattle.std.proofs.Common.{◌≡◌, ℕ, zero, suc, ◌+◌, ◌⊎◌, inl, inr, List, [], ◌∷◌, Contains, replicate, refl, ap, sym, ◌∙◌, arith}
use Rattle.std.proofs.lemmas.List.Elements.{Contains-append_right}
use Rattle.word_rows.specs.Rows.{words_of, IsRow, plus}
use Rattle.word_rows.proofs.Laws.{words_of-plus_first, plus-zero, plus-plus_comm, plus-plus_same, IsRow-zeros}
use Rattle.row_modules.specs.Modules.{AreRows, IsCombination, none, more, IsWithin, SameModule}
use Rattle.row_modules.proofs.Closure.{combinations, generator, module_least}

pub nothing_contained : {X : Type 0} → (x : X) → Contains [] x → ⊥
nothing_contained x (k, h, e) = omega arith

pub contains_first : {X : Type 0} → (x : X) (xs : List X) → Contains (x ∷ xs) x
contains_first x xs = (0, omega arith, refl)

pub contains_later : {X : Type 0} → (y : X) (xs : List X) (x : X) → Contains xs x → Contains (y ∷ xs) x
contains_later y xs x h = Contains-append_right (y ∷ []) xs x h

pub first_or_later : {X : Type 0} → (y : X) (xs : List X) (x : X) → Contains (y ∷ xs) x → (x ≡ y) ⊎ Contains xs x
first_or_later y xs x (zero, h, e) = inl (sym e)
first_or_later y xs x (suc k, h, e) = inr (k, omega arith, e)

pub rows_with : (n : ℕ) (row : List ℕ) (rows : List (List ℕ)) → IsRow n row → AreRows n (Contains rows) → AreRows n (Contains (row ∷ rows))
rows_with n row rows p rest v h = elim (first_or_later row rows v h) [ inl e ↦ rw e p | inr k ↦ rest v k ]

-- more generators span more
pub spans_more : (n : ℕ) (P Q : List ℕ → Type 0) → ((v : List ℕ) → P v → Q v) → IsWithin n P Q
spans_more n P Q h v (none v' e) = none v e
spans_more n P Q h w (more c v row w' m p e) = more c v row w (spans_more n P Q h v m) (h row p) e

-- generators that lie in another module give an inclusion
pub within_from_generators : (n : ℕ) (P Q : List ℕ → Type 0) → AreRows n Q → ((v : List ℕ) → P v → IsCombination n Q v) → IsWithin n P Q
within_from_generators n P Q rows h = module_least n (IsCombination n Q) (combinations n Q rows) P h

-- a combination of a list with one row more is one of the list, and a multiple of that row
pub record SplitsAt (n : ℕ) (row : List ℕ) (rows : List (List ℕ)) (v : List ℕ) : Type 0 where
  pub factor : ℕ
  pub rest : List ℕ
  pub combination : IsCombination n (Contains rows) rest
  pub is : v ≡ words_of (plus factor rest row)

module _ (n : ℕ) (row : List ℕ) (rows : List (List ℕ)) (first : IsRow n row) (later : AreRows n (Contains rows)) where
  split_zero : (v : List ℕ) → v ≡ replicate n 0 → SplitsAt n row rows v
  split_zero v e = record {
    factor = 0;
    rest = v;
    combination = none v e;
    is = let r : IsRow n v = rw e (IsRow-zeros n) in sym (ap words_of (plus-zero v row (r.width ∙ sym first.width)) ∙ r.words);
  }

  split_more : (c : ℕ) (v r w : List ℕ) → SplitsAt n row rows v → (r ≡ row) ⊎ Contains rows r → w ≡ words_of (plus c v r) → SplitsAt n row rows w
  split_more c v r w s (inl e) is = record {
    factor = c + s.factor;
    rest = s.rest;
    combination = s.combination;
    is = is ∙ ap (λ x. words_of (plus c v x)) e ∙ ap (λ x. words_of (plus c x row)) s.is ∙ words_of-plus_first c (plus s.factor s.rest row) row ∙ ap words_of (plus-plus_same c s.factor s.rest row);
  }
  split_more c v r w s (inr h) is = record {
    factor = s.factor;
    rest = words_of (plus c s.rest r);
    combination = more c s.rest r (words_of (plus c s.rest r)) s.combination h refl;
    is = is ∙ ap (λ x. words_of (plus c x r)) s.is ∙ words_of-plus_first c (plus s.factor s.rest row) r ∙ ap words_of (plus-plus_comm c s.factor s.rest row r) ∙ sym (words_of-plus_first s.factor (plus c s.rest r) row);
  }

  pub split_first : (v : List ℕ) → IsCombination n (Contains (row ∷ rows)) v → SplitsAt n row rows v
  split_first v (none v' e) = split_zero v e
  split_first w (more c v r w' m p e) = split_more c v r w (split_first v m) (first_or_later row rows r p) e

  pub with_multiple : (c : ℕ) (v : List ℕ) → IsCombination n (Contains rows) v → IsCombination n (Contains (row ∷ rows)) (words_of (plus c v row))
  with_multiple c v m = more c v row (words_of (plus c v row)) (spans_more n (Contains rows) (Contains (row ∷ rows)) (contains_later row rows) v m) (contains_first row rows) refl

  pub combination_adds_nothing : IsCombination n (Contains rows) row → SameModule n (Contains (row ∷ rows)) (Contains rows)
  combination_adds_nothing m = record {
    there = within_from_generators n (Contains (row ∷ rows)) (Contains rows) later (λ v h. elim (first_or_later row rows v h) [ inl e ↦ rw e m | inr k ↦ generator n (Contains rows) later v k ]);
    back = spans_more n (Contains rows) (Contains (row ∷ rows)) (contains_later row rows);
  }

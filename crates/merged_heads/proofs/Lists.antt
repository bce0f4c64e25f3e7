-- Members of filtered lists, and of lists that a relation pairs.
use Rattle.std.proofs.Common.{◌≡◌, ℕ, ◌<◌, inl, inr, Bool, true, false, List, [], ◌∷◌, Contains, filter, length, slice_index, ap, sym, ◌∙◌, arith, cond, ◌==◌, ◌||◌}
use Rattle.std.specs.List.{AllZip, list_any}
use Rattle.std.specs.List.Sorted.{IsStrictlyIncreasing}
use Rattle.std.proofs.lemmas.Bool.{cases_eq, cases_lt, eq-eqb, false≢true}
use Rattle.std.proofs.lemmas.List.Elements.{All-contains, All-filter, All-contains_itself}
use Rattle.std.proofs.lemmas.List.Kept.{AllPairs-from_increasing}
use Rattle.row_modules.proofs.Laws.{nothing_contained, contains_first, contains_later, first_or_later}
use Rattle.map_modules.proofs.Conditions.{or_true}

-- what a filter keeps
module _ {X : Type 0} (p : X → Bool) where
  kept_first : (b : Bool) (x : X) (xs : List X) → b ≡ true → Contains (cond b (x ∷ xs) xs) x
  kept_first true x xs e = contains_first x xs
  kept_first false x xs e = absurd (false≢true e)

  kept_later : (b : Bool) (y : X) (xs : List X) (x : X) → Contains xs x → Contains (cond b (y ∷ xs) xs) x
  kept_later true y xs x h = contains_later y xs x h
  kept_later false y xs x h = h

  pub filter_in : (xs : List X) (x : X) → p x ≡ true → Contains xs x → Contains (filter p xs) x
  filter_in [] x passes h = absurd (nothing_contained x h)
  filter_in (y ∷ xs) x passes h = elim (first_or_later y xs x h) [
    | inl e ↦ rw e (kept_first (p y) y (filter p xs) (ap p (sym e) ∙ passes))
    | inr k ↦ kept_later (p y) y (filter p xs) x (filter_in xs x passes k)
  ]

  pub filter_out : (xs : List X) (x : X) → Contains (filter p xs) x → Contains xs x
  filter_out xs x h = All-contains (Contains xs) (filter p xs) x (All-filter p (Contains xs) xs (All-contains_itself xs)) h

-- pairs
module _ {A B : Type 0} (R : A → B → Type 0) where
  pub zip_in : (xs : List A) (ys : List B) (x : A) → AllZip R xs ys → Contains xs x → (y : B) × Contains ys y × R x y
  zip_in [] ys x zip h = absurd (nothing_contained x h)
  zip_in (a ∷ xs) [] x zip h = absurd zip
  zip_in (a ∷ xs) (b ∷ ys) x zip h = elim (first_or_later a xs x h) [
    | inl e ↦ (b, contains_first b ys, rw e zip.0)
    | inr k ↦ let r = zip_in xs ys x zip.1 k in (r.0, contains_later b ys r.0 r.1, r.2)
  ]

  pub zip_out : (xs : List A) (ys : List B) (y : B) → AllZip R xs ys → Contains ys y → (x : A) × Contains xs x × R x y
  zip_out xs [] y zip h = absurd (nothing_contained y h)
  zip_out [] (b ∷ ys) y zip h = absurd zip
  zip_out (a ∷ xs) (b ∷ ys) y zip h = elim (first_or_later b ys y h) [
    | inl e ↦ (a, contains_first a xs, rw e zip.0)
    | inr k ↦ let r = zip_out xs ys y zip.1 k in (r.0, contains_later a xs r.0 r.1, r.2)
  ]

-- a number that is in a list
pub listed : (xs : List ℕ) (x : ℕ) → Contains xs x → list_any (λ y. y == x) xs ≡ true
listed [] x h = absurd (nothing_contained x h)
listed (y ∷ xs) x h = elim (first_or_later y xs x h) [
  | inl e ↦ ap (λ b. b || list_any (λ z. z == x) xs) (eq-eqb y x (sym e))
  | inr k ↦ or_true (y == x) (list_any (λ z. z == x) xs) (listed xs x k)
]

-- in an ascending list each number has one place
pub one_place : (xs : List ℕ) → IsStrictlyIncreasing xs → (i j : ℕ) → i < length xs → j < length xs → slice_index xs i ≡ slice_index xs j → i ≡ j
one_place xs order i j first second same =
    let apart = AllPairs-from_increasing xs order in
    elim (cases_eq i j) [
      | inl e ↦ e
      | inr other ↦ elim (cases_lt i j) [
        | inl before ↦ let h = apart i j 0 before second in absurd (omega arith)
        | inr behind ↦ let before : j < i = omega (arith, other) in let h = apart j i 0 before first in absurd (omega arith)
      ]
    ]

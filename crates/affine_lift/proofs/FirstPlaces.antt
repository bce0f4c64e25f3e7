-- The first place of a list that passes a test.
use Rattle.std.proofs.Common.{◌≡◌, ◌∙◌, ℕ, ◌<◌, Bool, true, false, List, [], ◌∷◌, length, slice_get, get_or, position, None, Some, inl, inr, refl, sym, ap, arith}
use Rattle.std.specs.List.{position_or_len}
use Rattle.std.proofs.lemmas.Bool.{cases_lt, lt-ltb, le-ltb}
use Rattle.std.proofs.lemmas.List.Quantifiers.{position-Some}
use Rattle.std.proofs.lemmas.List.Sums.{fails_before_first}
use Rattle.std.proofs.lemmas.Option.{get_or_from_slice_get, slice_get-get_or, slice_get_within}

pub passes_first : {X : Type 0} (p : X → Bool) (xs : List X) (d : X) → position_or_len p xs < length xs
    → (position p xs ≡ Some (position_or_len p xs)) × (p (get_or xs (position_or_len p xs) d) ≡ true)
passes_first p xs d within =
    let found : position p xs ≡ Some (position_or_len p xs) = rw (lt-ltb (position_or_len p xs) (length xs) within) refl in
    (found, (position-Some p xs (position_or_len p xs) d found).1)

-- the one place that passes
pub position_is : {X : Type 0} (p : X → Bool) (xs : List X) (i : ℕ) (x : X) → slice_get xs i ≡ Some x → p x ≡ true
    → ((j : ℕ) (y : X) → slice_get xs j ≡ Some y → p y ≡ true → j ≡ i) → position p xs ≡ Some i
position_is p xs i x at passes one =
    let below = slice_get_within xs i x at in
    let here = get_or_from_slice_get xs i x x at in
    elim (cases_lt i (position_or_len p xs)) [
      | inl before ↦
          let fails = fails_before_first p xs i x before in
          let bad : false ≡ true = sym fails ∙ ap p here ∙ passes in
          cc bad
      | inr least ↦
          let within : position_or_len p xs < length xs = omega arith in
          let first = passes_first p xs x within in
          first.0 ∙ ap Some (one (position_or_len p xs) (get_or xs (position_or_len p xs) x) (slice_get-get_or xs (position_or_len p xs) x within) first.1)
    ]

-- where none passes
pub position_none : {X : Type 0} (p : X → Bool) (xs : List X) → ((j : ℕ) (y : X) → slice_get xs j ≡ Some y → p y ≡ true → ⊥)
    → position p xs ≡ None
position_none p [] none = refl
position_none p (x ∷ xs) none =
    elim (cases_lt (position_or_len p (x ∷ xs)) (length (x ∷ xs))) [
      | inl within ↦
          let first = passes_first p (x ∷ xs) x within in
          absurd (none _ _ (slice_get-get_or (x ∷ xs) (position_or_len p (x ∷ xs)) x within) first.1)
      | inr past ↦ rw (le-ltb (position_or_len p (x ∷ xs)) (length (x ∷ xs)) past) refl
    ]

pub position_within : {X : Type 0} (p : X → Bool) (xs : List X) (i : ℕ) → position p xs ≡ Some i
    → (x : X) × (slice_get xs i ≡ Some x) × (p x ≡ true)
position_within p [] i e = cc
position_within p (x ∷ xs) i e =
    let found = position-Some p (x ∷ xs) i x e in
    (get_or (x ∷ xs) i x, slice_get-get_or (x ∷ xs) i x found.0, found.1)

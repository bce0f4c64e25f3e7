-- A list to which a number is added, where it isn't there.
use Rattle.std.proofs.Common.{ℕ, ◌+◌, ◌<◌, ◌≤◌, Bool, true, false, eqb, if◌then◌else◌, List, [], ◌∷◌, ◌++◌, length, length-append, All, Contains, arith, eqb-true}
use Rattle.std.specs.List.{list_any}
use Rattle.std.proofs.lemmas.List.Elements.{All-push, Contains-append_left}
use Rattle.indexmap.specs.IndexSet.{insert_key}
use Rattle.indexmap.proofs.CallerLemmas.{Contains-insert_key}

module _ (xs : List ℕ) (x : ℕ) where
  pub listed_there : Contains (insert_key eqb xs x) x
  listed_there = Contains-insert_key eqb eqb-true xs x

  pub listed_stay : (y : ℕ) → Contains xs y → Contains (insert_key eqb xs x) y
  listed_stay y there = by (list_any (eqb x) xs)
    where
      by : (t : Bool) → Contains (if t then xs else xs ++ x ∷ []) y
      by true = there
      by false = Contains-append_left xs (x ∷ []) y there

  pub listed_within : (n : ℕ) → All (λ k. k < n) xs → x < n → All (λ k. k < n) (insert_key eqb xs x)
  listed_within n all lt = by (list_any (eqb x) xs)
    where
      by : (t : Bool) → All (λ k. k < n) (if t then xs else xs ++ x ∷ [])
      by true = all
      by false = All-push (λ k. k < n) xs x all lt

  pub listed_longer : length (insert_key eqb xs x) ≤ length xs + 1
  listed_longer = by (list_any (eqb x) xs)
    where
      by : (t : Bool) → length (if t then xs else xs ++ x ∷ []) ≤ length xs + 1
      by true = omega arith
      by false = omega (arith, length-append xs (x ∷ []))

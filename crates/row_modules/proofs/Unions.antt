-- Modules of unions of sets.
use Rattle.std.proofs.Common.{◌≡◌, ℕ, inl, inr, List, ◌∷◌, Contains}
use Rattle.row_modules.specs.Modules.{AreRows, Either, IsWithin, SameModule}
use Rattle.row_modules.proofs.Closure.{generator}
use Rattle.row_modules.proofs.Lists.{contains_first, contains_later, first_or_later, spans_more, within_from_generators}

pub either_rows : (n : ℕ) (P Q : List ℕ → Type 0) → AreRows n P → AreRows n Q → AreRows n (Either P Q)
either_rows n P Q first second v h = elim h [ inl p ↦ first v p | inr q ↦ second v q ]

pub same_with : (n : ℕ) (P Q R : List ℕ → Type 0) → SameModule n P Q → SameModule n Q R → SameModule n P R
same_with n P Q R a b = record { there = λ v h. b.there v (a.there v h); back = λ v h. a.back v (b.back v h) }

-- sets with the same members
pub same_members : (n : ℕ) (P Q : List ℕ → Type 0) → ((v : List ℕ) → P v → Q v) → ((v : List ℕ) → Q v → P v) → SameModule n P Q
same_members n P Q there back = record { there = spans_more n P Q there; back = spans_more n Q P back }

-- each part may be exchanged for one with the same module
pub either_same : (n : ℕ) (P Q P' Q' : List ℕ → Type 0) → AreRows n P → AreRows n Q → AreRows n P' → AreRows n Q' → SameModule n P P' → SameModule n Q Q' → SameModule n (Either P Q) (Either P' Q')
either_same n P Q P' Q' p q p' q' a b = record {
  there = either_within n P Q P' Q' p q p' q' a.there b.there;
  back = either_within n P' Q' P Q p' q' p q a.back b.back;
} where
  either_within : (n : ℕ) (P Q P' Q' : List ℕ → Type 0) → AreRows n P → AreRows n Q → AreRows n P' → AreRows n Q' → IsWithin n P P' → IsWithin n Q Q' → IsWithin n (Either P Q) (Either P' Q')
  either_within n P Q P' Q' p q p' q' a b =
      within_from_generators n (Either P Q) (Either P' Q') (either_rows n P' Q' p' q')
      (λ v h. elim h [
        | inl m ↦ spans_more n P' (Either P' Q') (λ u i. inl i) v (a v (generator n P p v m))
        | inr m ↦ spans_more n Q' (Either P' Q') (λ u i. inr i) v (b v (generator n Q q v m))
      ])

-- a list with one row more
pub same_first : (n : ℕ) (row : List ℕ) (rows : List (List ℕ)) → SameModule n (Contains (row ∷ rows)) (Either (Contains rows) (λ v. v ≡ row))
same_first n row rows =
    same_members n (Contains (row ∷ rows)) (Either (Contains rows) (λ v. v ≡ row))
    (λ v h. elim (first_or_later row rows v h) [ inl e ↦ inr e | inr k ↦ inl k ])
    (λ v h. elim h [ inl k ↦ contains_later row rows v k | inr e ↦ rw e (contains_first row rows) ])

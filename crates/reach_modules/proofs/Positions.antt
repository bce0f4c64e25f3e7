-- The positions of a set, found one after the other.
use Rattle.std.proofs.Common.{◌≡◌, ℕ, ◌+◌, ◌<◌, ◌↔◌, inl, inr, List, [], ◌∷◌, ◌++◌, Contains, Bool, true, false, IsTrue, sym, ◌∙◌, arith, if◌then◌else◌}
use Rattle.std.proofs.lemmas.Bool.{cases_lt, false≢true}
use Rattle.std.proofs.lemmas.List.Elements.{Contains-append_left, Contains-append_right, Contains-append_cases}
use Rattle.row_modules.specs.Positions.{has}
use Rattle.row_engine.proofs.Members.{nothing_in, first_in, first_or_later_in}

module _ (set i : ℕ) (old : List ℕ) (so_far : (k : ℕ) → Contains old k ↔ ((k < i) × IsTrue (has set k))) where
  with_position : has set i ≡ true → (k : ℕ) → Contains (old ++ i ∷ []) k ↔ ((k < i + 1) × IsTrue (has set k))
  with_position seen k = (
    λ h. elim (Contains-append_cases old (i ∷ []) k h) [
      | inl l ↦ let s = (so_far k).0 l in (omega arith, s.1)
      | inr r ↦ elim (first_or_later_in i [] k r) [ inl e ↦ rw e (omega arith, seen) | inr none ↦ absurd (nothing_in k none) ]
    ],
    λ (below, member). elim (cases_lt k i) [
      | inl lt ↦ Contains-append_left old (i ∷ []) k ((so_far k).1 (lt, member))
      | inr ge ↦ let e : k ≡ i = omega arith in rw e (Contains-append_right old (i ∷ []) i (first_in i []))
    ],
  )

  without_position : has set i ≡ false → (k : ℕ) → Contains old k ↔ ((k < i + 1) × IsTrue (has set k))
  without_position unseen k = (
    λ h. let s = (so_far k).0 h in (omega arith, s.1),
    λ (below, member). elim (cases_lt k i) [
      | inl lt ↦ (so_far k).1 (lt, member)
      | inr ge ↦ let e : k ≡ i = omega arith in absurd (false≢true (sym unseen ∙ (rw e at member)))
    ],
  )

  pub position_more : (b : Bool) (new : List ℕ) → b ≡ has set i → new ≡ (if b then old ++ i ∷ [] else old) → (k : ℕ) → Contains new k ↔ ((k < i + 1) × IsTrue (has set k))
  position_more true new seen is = rw is (with_position (sym seen))
  position_more false new seen is = rw is (without_position (sym seen))

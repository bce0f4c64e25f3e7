-- A list with each end's procedure tells of each end.
use Rattle.std.proofs.Common.{◌≡◌, ℕ, zero, suc, ◌+◌, ◌<◌, ◌≤◌, ◌==◌, ◌||◌, not, Bool, true, false, List, [], ◌∷◌, ◌++◌, Some, slice_get, get_or, length, refl, sym, ap, subst, ◌∙◌, inl, inr, arith}
use Rattle.std.proofs.lemmas.Bool.{cases_lt}
use Rattle.std.proofs.lemmas.Option.{get_or_from_slice_get, slice_get_within}
use Rattle.std.specs.Prelude.{if◌then◌else◌}
use Rattle.entry_walks.specs.Walks.{is_among}
use Rattle.abi_verdicts.specs.declared.ways.End.{End}
use Rattle.abi_verdicts.specs.Ends.{lives, is_told, are_told}

pub among_more : (xs : List ℕ) (b c : ℕ) → is_among xs b ≡ true → is_among (xs ++ c ∷ []) b ≡ true
among_more [] b c e = cc
among_more (x ∷ xs) b c e = by (x == b) (among_more xs b c) e
  where
    by : (t : Bool) → (is_among xs b ≡ true → is_among (xs ++ c ∷ []) b ≡ true) → (if t then true else is_among xs b) ≡ true
        → (if t then true else is_among (xs ++ c ∷ []) b) ≡ true
    by true later e = refl
    by false later e = later e

same_number : (n : ℕ) → (n == n) ≡ true
same_number n = search arith

pub among_last : (xs : List ℕ) (c : ℕ) → is_among (xs ++ c ∷ []) c ≡ true
among_last [] c = ap (λ (t : Bool). if t then true else false) (same_number c)
among_last (x ∷ xs) c = by (x == c) (among_last xs c)
  where
    by : (t : Bool) → is_among (xs ++ c ∷ []) c ≡ true → (if t then true else is_among (xs ++ c ∷ []) c) ≡ true
    by true e = refl
    by false e = e

or_true : (t : Bool) → (t || true) ≡ true
or_true true = refl
or_true false = refl

pub all_told : (all : List ℕ) (ends : List End) → ((j : ℕ) (e : End) → slice_get ends j ≡ Some e → is_among all e.procedure ≡ true) → are_told all ends ≡ true
all_told all [] each = refl
all_told all (e ∷ rest) each =
    let here : is_told all e ≡ true = ap (λ (t : Bool). not (lives all e.way) || t) (each zero e refl) ∙ or_true (not (lives all e.way)) in
    ap (λ (t : Bool). if t then are_told all rest else false) here ∙ all_told all rest (λ j f is. each (suc j) f is)

-- one end more
pub among_all_more : (ends : List End) (i : ℕ) (d : End) (all behind : List ℕ) → behind ≡ all ++ (get_or ends i d).procedure ∷ []
    → ((j : ℕ) (e : End) → j < i → slice_get ends j ≡ Some e → is_among all e.procedure ≡ true)
    → (j : ℕ) (e : End) → j < i + 1 → slice_get ends j ≡ Some e → is_among behind e.procedure ≡ true
among_all_more ends i d all behind pushed each j e within is =
    subst (λ (xs : List ℕ). is_among xs e.procedure ≡ true) (sym pushed) (elim (cases_lt j i) [
      | inl less ↦ among_more all e.procedure (get_or ends i d).procedure (each j e less is)
      | inr most ↦
          let here : j ≡ i = omega (arith, most, within) in
          let same : get_or ends i d ≡ e = get_or_from_slice_get ends i e d (subst (λ (k : ℕ). slice_get ends k ≡ Some e) here is) in
          subst (λ (f : End). is_among (all ++ (get_or ends i d).procedure ∷ []) f.procedure ≡ true) same (among_last all (get_or ends i d).procedure)
    ])

pub told_by_each : (all : List ℕ) (ends : List End) (i : ℕ) → length ends ≤ i → ((j : ℕ) (e : End) → j < i → slice_get ends j ≡ Some e → is_among all e.procedure ≡ true)
    → are_told all ends ≡ true
told_by_each all ends i past each = all_told all ends (λ j e is. each j e (let w = slice_get_within ends j e is in by j w) is)
  where
    by : (j : ℕ) → j < length ends → j < i
    by j w = elim (cases_lt j i) [
      | inl less ↦ less
      | inr most ↦ absurd (omega (arith, most, w, past))
    ]

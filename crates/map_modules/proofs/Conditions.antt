-- Tests that are true whatever else, and the test of equality with its sides exchanged.
use Rattle.std.proofs.Common.{◌≡◌, ℕ, Bool, true, false, refl, sym, ◌∙◌, ◌==◌, ◌&&◌, ◌||◌, inl, inr}
use Rattle.std.proofs.lemmas.Bool.{eq-eqb, ne_eqb, cases_eq}

pub and_true : (b c : Bool) → c ≡ true → (b && c) ≡ b
and_true true c e = e
and_true false c e = refl

pub or_true : (b c : Bool) → c ≡ true → (b || c) ≡ true
or_true true c e = refl
or_true false c e = e

pub same_tests : (i k : ℕ) → (i == k) ≡ (k == i)
same_tests i k = elim (cases_eq i k) [
  | inl e ↦ eq-eqb i k e ∙ sym (eq-eqb k i (sym e))
  | inr n ↦ ne_eqb i k n ∙ sym (ne_eqb k i (λ e. n (sym e)))
]

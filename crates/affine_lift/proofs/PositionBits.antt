-- The positions in a set of names.
use Rattle.std.proofs.Common.{◌≡◌, ◌∙◌, ℕ, zero, suc, ◌+◌, ◌*◌, ◌/◌, ◌%◌, ◌<◌, ◌==◌, Bool, true, false, cond, List, [], ◌∷◌, slice_get, Option, None, Some, IsTrue, bit_and, bit_or, min, ◌⊎◌, inl, inr, refl, sym, ap, arith}
use Rattle.std.specs.Int.{bit_at}
use Rattle.std.specs.Option.{option_map_or}
use Rattle.std.proofs.lemmas.Nat.Bits.{bit_at_and, bit_at_or, bit_at-lt, bit_at_lowest, bit_at-suc, bit_at-zero, same_from_bits}
use Rattle.std.proofs.lemmas.Bool.{eqb-true}
use Rattle.row_modules.specs.Positions.{has}
use Rattle.row_modules.proofs.Laws.{in_or_out}
use Rattle.report_text.specs.declared.names.Name.{Name}
use Rattle.affine_lift.specs.Lifting.{positions_where}

low : (b : Bool) (m : ℕ) → (cond b 1 0 + 2 * m) % 2 ≡ cond b 1 0
low true m = omega arith
low false m = omega arith

half : (b : Bool) (m : ℕ) → (cond b 1 0 + 2 * m) / 2 ≡ m
half true m = omega arith
half false m = omega arith

one_is : (b : Bool) → (cond b 1 0 == 1) ≡ b
one_is true = refl
one_is false = refl

pub has_positions : (test : Name → Bool) (names : List Name) (k : ℕ) → has (positions_where test names) k ≡ option_map_or test (slice_get names k) false
has_positions test [] k = ap (λ (n : ℕ). n == 1) (bit_at-zero k)
has_positions test (name ∷ names) zero =
    ap (λ (n : ℕ). n == 1) (bit_at_lowest (positions_where test (name ∷ names)) ∙ low (test name) (positions_where test names)) ∙ one_is (test name)
has_positions test (name ∷ names) (suc k) =
    ap (λ (n : ℕ). n == 1) (bit_at-suc (positions_where test (name ∷ names)) k ∙ ap (λ (n : ℕ). bit_at n k) (half (test name) (positions_where test names)))
    ∙ has_positions test names k

pub has_name : (test : Name → Bool) (names : List Name) (k : ℕ) (name : Name) → slice_get names k ≡ Some name → IsTrue (test name)
    → IsTrue (has (positions_where test names) k)
has_name test names k name at passes = has_positions test names k ∙ ap (λ (o : Option Name). option_map_or test o false) at ∙ passes

bit_zero : (n : ℕ) → n < 2 → (n == 1) ≡ false → n ≡ 0
bit_zero zero small f = refl
bit_zero (suc zero) small f = cc
bit_zero (suc (suc n)) small f = absurd (omega arith)

not_both : (a b i : ℕ) → (IsTrue (has a i) → IsTrue (has b i) → ⊥) → min (bit_at a i) (bit_at b i) ≡ 0
not_both a b i apart =
    elim (in_or_out a i) [
      | inl s ↦ elim (in_or_out b i) [
        | inl t ↦ absurd (apart s t)
        | inr f ↦ let none = bit_zero (bit_at b i) (bit_at-lt b i) f in omega arith
      ]
      | inr f ↦ let none = bit_zero (bit_at a i) (bit_at-lt a i) f in omega arith
    ]

-- two tests that no name passes both have disjoint sets
pub positions_apart : (p q : Name → Bool) (names : List Name) → ((name : Name) → IsTrue (p name) → IsTrue (q name) → ⊥)
    → bit_and (positions_where p names) (positions_where q names) ≡ 0
positions_apart p q names apart =
    same_from_bits (bit_and (positions_where p names) (positions_where q names)) 0 (λ i. bit_at_and (positions_where p names) (positions_where q names) i
    ∙ not_both (positions_where p names) (positions_where q names) i (λ s t. clash (slice_get names i) (sym (has_positions p names i) ∙ s) (sym (has_positions q names i) ∙ t))
    ∙ sym (bit_at-zero i))
  where
    clash : (o : Option Name) → option_map_or p o false ≡ true → option_map_or q o false ≡ true → ⊥
    clash None s t = cc
    clash (Some name) s t = apart name s t

pub in_either : (a b i : ℕ) → IsTrue (has (bit_or a b) i) → IsTrue (has a i) ⊎ IsTrue (has b i)
in_either a b i t =
    elim (in_or_out a i) [
      | inl s ↦ inl s
      | inr f ↦ elim (in_or_out b i) [
        | inl s ↦ inr s
        | inr g ↦
            let one = eqb-true (bit_at (bit_or a b) i) 1 t in
            let none = bit_zero (bit_at a i) (bit_at-lt a i) f in
            let neither = bit_zero (bit_at b i) (bit_at-lt b i) g in
            absurd (let most = bit_at_or a b i in omega arith)
      ]
    ]

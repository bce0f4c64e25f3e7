-- Sets of positions, and what is outside of them.
use Rattle.std.proofs.Common.{◌≡◌, ℕ, ◌^◌, ◌<◌, ◌≤◌, ◌⊎◌, inl, inr, Bool, true, false, ◌==◌, List, slice_index, length, max, bit_or, IsTrue, refl, ap, sym, ◌∙◌, arith}
use Rattle.std.specs.Int.{bit_at}
use Rattle.std.proofs.lemmas.Bool.{cases_eq, cases_lt, eqb-true, false_from_ne_true, false≢true}
use Rattle.std.proofs.lemmas.List.{get_or_past}
use Rattle.std.proofs.lemmas.Nat.Bits.{bit_at_or, bit_at-lt, bit_at-pow_same, bit_at-pow_other, bit_at_above}
use Rattle.row_modules.specs.Positions.{has, with_constant, IsZeroOutside}

pub in_or_out : (s i : ℕ) → IsTrue (has s i) ⊎ (has s i ≡ false)
in_or_out s i = decided (has s i)
  where
    decided : (b : Bool) → IsTrue b ⊎ (b ≡ false)
    decided true = inl refl
    decided false = inr refl

pub in_not_out : (s i : ℕ) → IsTrue (has s i) → has s i ≡ false → ⊥
in_not_out s i t f = false≢true (sym f ∙ t)

-- a set of positions below k has none from k on
pub has_beyond : (k s i : ℕ) → s < 2 ^ k → k ≤ i → has s i ≡ false
has_beyond k s i small beyond = ap (λ n. n == 1) (bit_at_above s k i small beyond)

-- unions
pub has_left : (a b i : ℕ) → IsTrue (has a i) → IsTrue (has (bit_or a b) i)
has_left a b i t =
    let e = eqb-true _ _ t in let l = bit_at-lt b i in
    let m : max (bit_at a i) (bit_at b i) ≡ 1 = omega arith in
    ap (λ n. n == 1) (bit_at_or a b i ∙ m)

pub has_right : (a b i : ℕ) → IsTrue (has b i) → IsTrue (has (bit_or a b) i)
has_right a b i t =
    let e = eqb-true _ _ t in let l = bit_at-lt a i in
    let m : max (bit_at a i) (bit_at b i) ≡ 1 = omega arith in
    ap (λ n. n == 1) (bit_at_or a b i ∙ m)

pub out_left : (a b i : ℕ) → has (bit_or a b) i ≡ false → has a i ≡ false
out_left a b i f = false_from_ne_true (has a i) (λ t. in_not_out (bit_or a b) i (has_left a b i t) f)

pub out_right : (a b i : ℕ) → has (bit_or a b) i ≡ false → has b i ≡ false
out_right a b i f = false_from_ne_true (has b i) (λ t. in_not_out (bit_or a b) i (has_right a b i t) f)

-- the constant's position
pub constant_is_in : (s : ℕ) → IsTrue (has (with_constant s) 16)
constant_is_in s = has_right s (2 ^ 16) 16 (ap (λ n. n == 1) (bit_at-pow_same 16))

pub with_constant_other : (s k : ℕ) → (k ≡ 16 → ⊥) → has (with_constant s) k ≡ has s k
with_constant_other s k ne =
    ap (λ n. n == 1) (bit_at_or s (2 ^ 16) k ∙ (let e = bit_at-pow_other 16 k ne in let m : max (bit_at s k) (bit_at (2 ^ 16) k) ≡ bit_at s k = omega arith in m))

-- what is outside a set with the constant is outside the set, and not the constant
pub out_of_set : (s k : ℕ) → has (with_constant s) k ≡ false → has s k ≡ false
out_of_set s k out = out_left s (2 ^ 16) k out

pub not_constant : (s k : ℕ) → has (with_constant s) k ≡ false → k ≡ 16 → ⊥
not_constant s k out e = in_not_out (with_constant s) 16 (constant_is_in s) (rw e at out)

-- outside the constant's position it is enough to look below it
pub zero_outside_below : (s : ℕ) (row : List ℕ) → length row ≡ 17 → ((k : ℕ) → k < 16 → has s k ≡ false → slice_index row k ≡ 0) → IsZeroOutside (with_constant s) row
zero_outside_below s row wide zeros k out = elim (cases_lt k 16) [
  | inl lt ↦ zeros k lt (sym (with_constant_other s k (λ e. omega arith)) ∙ out)
  | inr ge ↦ elim (cases_eq k 16) [
    | inl e ↦ absurd (in_not_out (with_constant s) k (rw e (constant_is_in s)) out)
    | inr ne ↦ get_or_past row k 0 (omega arith)
  ]
]

pub zero_below : (s : ℕ) (row : List ℕ) → IsZeroOutside (with_constant s) row → (k : ℕ) → k < 16 → has s k ≡ false → slice_index row k ≡ 0
zero_below s row zeros k below out = zeros k (with_constant_other s k (λ e. omega arith) ∙ out)

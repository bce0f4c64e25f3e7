-- Words and powers of two.
use Rattle.std.proofs.Common.{◌≡◌, ℕ, zero, suc, ◌+◌, ◌-◌, ◌*◌, ◌/◌, ◌%◌, ◌^◌, ◌<◌, ◌≤◌, inl, inr, refl, ap, ap₂, sym, ◌∙◌, arith}
use Rattle.std.specs.Int.{w64, trailing_zeros}
use Rattle.std.proofs.lemmas.Bool.{cases_eq}
use Rattle.std.proofs.lemmas.Nat.Bits.{bit_at-trailing_zeros, bit_at-pow_other}
use Rattle.std.proofs.Math.Nat.{mul-mod_left, add-mul-mod_self_left, div-add-mod, mod-eq_of_lt, lt_of_mul-lt-mul_right, mul-le-mul_right}
use Rattle.std.proofs.lemmas.Nat.{mod-pow-add, shl-shr, pow_pos, pow-add, pow_below}
use Rattle.word_rows.specs.Words.{word}

-- a multiple of 2 ^ k wraps to one
pub word_of_multiple : (m j k : ℕ) → j + k ≡ 64 → word (m * 2 ^ k) ≡ (m % 2 ^ j) * 2 ^ k
word_of_multiple m j k e =
    ap (λ (i : ℕ). (m * 2 ^ k) % 2 ^ i) (sym e) ∙ mod-pow-add (m * 2 ^ k) j k
    ∙ ap₂ (λ (x y : ℕ). (x % 2 ^ j) * 2 ^ k + y) (shl-shr m k) (mul-mod_left m (2 ^ k)) ∙ (let z : (m % 2 ^ j) * 2 ^ k + 0 ≡ (m % 2 ^ j) * 2 ^ k = omega arith in z)

-- where a multiple of 2 ^ k wraps to 0, the factor is a multiple of 2 ^ j
pub factor_of_zero : (m j k : ℕ) → j + k ≡ 64 → word (m * 2 ^ k) ≡ 0 → m ≡ (m / 2 ^ j) * 2 ^ j
factor_of_zero m j k e z =
    let w : (m % 2 ^ j) * 2 ^ k ≡ 0 = sym (word_of_multiple m j k e) ∙ z in
    let r : m % 2 ^ j ≡ 0 = zero_factor (m % 2 ^ j) (2 ^ k) (pow_pos k) w in
    let d = div-add-mod m (2 ^ j) in omega (arith, d, r)
  where
    zero_factor : (a b : ℕ) → 0 < b → a * b ≡ 0 → a ≡ 0
    zero_factor zero b p h = refl
    zero_factor (suc a) b p h = let s : suc a * b ≡ a * b + b = omega arith in absurd (omega (arith, s, h, p))

-- what is left of a word when its quotient by p, times p, is taken away
pub word_left : (x c q p : ℕ) → x < 2 ^ 64 → q ≡ x / p → word (c + q) ≡ 0 → word (x + c * p) ≡ x % p
word_left x c q p small e z =
    let d : p * q + x % p ≡ x = ap (λ (n : ℕ). p * n + x % p) e ∙ div-add-mod x p in
    let w : 2 ^ 64 * ((c + q) / 2 ^ 64) ≡ c + q = let h = div-add-mod (c + q) (2 ^ 64) in omega arith in
    let f : 2 ^ 64 * ((c + q) / 2 ^ 64) * p ≡ (c + q) * p = ap (λ (n : ℕ). n * p) w in
    let s : x + c * p ≡ x % p + 2 ^ 64 * ((c + q) / 2 ^ 64 * p) = omega (arith, f, d) in
    ap word s ∙ add-mul-mod_self_left (x % p) (2 ^ 64) ((c + q) / 2 ^ 64 * p) ∙ mod-eq_of_lt (omega (arith, d, small))

-- two numbers below 2 ^ k that differ by a multiple of 2 ^ k, as words, are equal
pub no_multiple : (x y m j k : ℕ) → j + k ≡ 64 → x < 2 ^ k → y < 2 ^ k → m * 2 ^ k < 2 ^ 64 → x ≡ word (y + m * 2 ^ k) → m * 2 ^ k ≡ 0
no_multiple x y zero j k e below_x below_y small is = omega arith
no_multiple x y (suc m) j k e below_x below_y small is =
    let whole : 2 ^ 64 ≡ 2 ^ j * 2 ^ k = ap (λ (i : ℕ). 2 ^ i) (sym e) ∙ pow-add 2 j k in
    let p : suc m * 2 ^ k < 2 ^ j * 2 ^ k = omega (arith, whole, small) in
    let lt : suc m < 2 ^ j = lt_of_mul-lt-mul_right (2 ^ k) p in
    let le : suc (suc m) * 2 ^ k ≤ 2 ^ j * 2 ^ k = mul-le-mul_right (2 ^ k) lt in
    let one : suc (suc m) * 2 ^ k ≡ suc m * 2 ^ k + 2 ^ k = omega arith in
    let two : suc m * 2 ^ k ≡ m * 2 ^ k + 2 ^ k = omega arith in
    let same : x ≡ y + suc m * 2 ^ k = is ∙ mod-eq_of_lt (omega (arith, whole, le, one, below_y)) in
    absurd (omega (arith, same, two, below_x))

-- the exponent of a power of two
pub exponent : (t : ℕ) → t < 64 → trailing_zeros w64 (2 ^ t) ≡ t
exponent t small =
    let b = bit_at-trailing_zeros w64 (2 ^ t) (pow_pos t) (pow_below t 64 small) in
    elim (cases_eq (trailing_zeros w64 (2 ^ t)) t) [ inl e ↦ e | inr ne ↦ let z = bit_at-pow_other t (trailing_zeros w64 (2 ^ t)) ne in let o = b.1 in absurd (omega (arith, z, o)) ]

-- powers of two whose exponents differ by d
pub power_quotient : (t d : ℕ) → 2 ^ (d + t) / 2 ^ t ≡ 2 ^ d
power_quotient t d = ap (λ (x : ℕ). x / 2 ^ t) (pow-add 2 d t) ∙ shl-shr (2 ^ d) t

pub power_divides : (s t : ℕ) → t ≤ s → 2 ^ s % 2 ^ t ≡ 0
power_divides s t le =
    let e : s ≡ (s - t) + t = omega arith in
    ap (λ (k : ℕ). 2 ^ k % 2 ^ t) e ∙ ap (λ (x : ℕ). x % 2 ^ t) (pow-add 2 (s - t) t) ∙ mul-mod_left (2 ^ (s - t)) (2 ^ t)

pub multiple_divides : (m s t : ℕ) → t ≤ s → (m * 2 ^ s) % 2 ^ t ≡ 0
multiple_divides m s t le =
    let e : s ≡ (s - t) + t = omega arith in
    let f : m * 2 ^ s ≡ (m * 2 ^ (s - t)) * 2 ^ t = ap (λ (k : ℕ). m * 2 ^ k) e ∙ ap (λ (x : ℕ). m * x) (pow-add 2 (s - t) t) ∙ (let g : m * (2 ^ (s - t) * 2 ^ t) ≡ (m * 2 ^ (s - t)) * 2 ^ t = omega arith in g) in
    ap (λ (x : ℕ). x % 2 ^ t) f ∙ mul-mod_left (m * 2 ^ (s - t)) (2 ^ t)

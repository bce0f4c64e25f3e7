-- Newton's step for an inverse: where u * x is 1 modulo M, it makes u * x be 1 modulo M * M.
use Rattle.std.proofs.Common.{◌≡◌, ℕ, ◌+◌, ◌-◌, ◌*◌, ◌/◌, ◌%◌, ◌^◌, ◌<◌, ◌≤◌, subst, ap, sym, ◌∙◌, arith, lit<}
use Rattle.std.proofs.Math.Nat.{pow-le-pow_right, add-mul-mod_self_left, div-add-mod, mod-lt, mod-eq_of_lt}
use Rattle.std.proofs.lemmas.Nat.{pow-add, pow_pos, pow_below}

-- the step, with each quotient named: s stands for 2 - u * x, and z for x * s
step_sums : (u x s z M e q p p' p'' : ℕ) → u * x ≡ 1 + M * q → x * s ≡ (M * M * e) * p'' + z
    → s + (M * M * e) * p' + u * x ≡ 2 + M * M * e + (M * M * e) * p
    → u * z + M * M * (e * u * p'' + u * x * e * p' + q * q) ≡ 1 + M * M * (u * x * e * (1 + p))
step_sums u x s z M e q p p' p'' one product difference =
    let a = ap (λ (n : ℕ). u * n) product in
    let b = ap (λ (n : ℕ). u * x * n) difference in
    let d = ap (λ (n : ℕ). n * n) one in
    omega arith

same_mod : (a b m k l : ℕ) → a + m * k ≡ b + m * l → a % m ≡ b % m
same_mod a b m k l e = sym (add-mul-mod_self_left a m k) ∙ ap (λ n. n % m) e ∙ add-mul-mod_self_left b m l

step : (u x M e W : ℕ) → M * M * e ≡ W → 0 < W → 1 < M * M → (u * x) % M ≡ 1
    → (u * (x * ((2 + (W - u * x % W)) % W) % W)) % (M * M) ≡ 1
step u x M e W whole some large one =
    let r = u * x % W in
    let s = (2 + (W - r)) % W in
    let z = x * s % W in
    let below : r < W = mod-lt (u * x) some in
    let first : u * x ≡ 1 + M * (u * x / M) = omega (arith, div-add-mod (u * x) M) in
    let product : x * s ≡ (M * M * e) * (x * s / W) + z = rw whole (omega (arith, div-add-mod (x * s) W)) in
    let difference : s + (M * M * e) * ((2 + (W - r)) / W) + u * x ≡ 2 + M * M * e + (M * M * e) * (u * x / W) =
    rw whole (omega (arith, div-add-mod (2 + (W - r)) W, div-add-mod (u * x) W)) in
    same_mod _ _ (M * M) _ _ (step_sums u x s z M e _ _ _ _ first product difference) ∙ mod-eq_of_lt large

square : (k : ℕ) → 2 ^ (2 ^ (k + 1)) ≡ 2 ^ (2 ^ k) * 2 ^ (2 ^ k)
square k = ap (λ n. 2 ^ n) (let e : 2 ^ (k + 1) ≡ 2 ^ k + 2 ^ k = omega (arith, pow-add 2 k 1) in e) ∙ pow-add 2 (2 ^ k) (2 ^ k)

-- 2^64 is a multiple of each square that a turn reaches
rest : (k : ℕ) → k < 6 → 2 ^ (2 ^ k) * 2 ^ (2 ^ k) * 2 ^ (64 - 2 ^ (k + 1)) ≡ 2 ^ 64
rest k below =
    ap (λ n. n * 2 ^ (64 - 2 ^ (k + 1))) (sym (square k)) ∙ sym (pow-add 2 (2 ^ (k + 1)) (64 - 2 ^ (k + 1)))
    ∙ ap (λ n. 2 ^ n) (let e : 2 ^ (k + 1) + (64 - 2 ^ (k + 1)) ≡ 64 = omega (arith, small) in e)
  where
    small : 2 ^ (k + 1) ≤ 64
    small = pow-le-pow_right {n = 2} (lit< tt) {i = k + 1} {j = 6} (omega arith)

pub turn : (u x k : ℕ) → k < 6 → (u * x) % 2 ^ (2 ^ k) ≡ 1
    → (u * (x * ((2 + (2 ^ 64 - u * x % 2 ^ 64)) % 2 ^ 64) % 2 ^ 64)) % 2 ^ (2 ^ (k + 1)) ≡ 1
turn u x k below one =
    ap (λ n. (u * (x * ((2 + (2 ^ 64 - u * x % 2 ^ 64)) % 2 ^ 64) % 2 ^ 64)) % n) (square k)
    ∙ step u x (2 ^ (2 ^ k)) _ (2 ^ 64) (rest k below) (lit< tt) large one
  where
    large : 1 < 2 ^ (2 ^ k) * 2 ^ (2 ^ k)
    large = subst (λ n. 1 < n) (square k) (pow_below 0 (2 ^ (k + 1)) (pow_pos (k + 1)))

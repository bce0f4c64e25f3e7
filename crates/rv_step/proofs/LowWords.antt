-- The low halves of sums and products, by the low halves of their parts.
use Rattle.std.proofs.Common.{◌≡◌, ℕ, ◌*◌, ◌%◌, ◌^◌, pos, ap, arith}
use Rattle.std.proofs.lemmas.Nat.{mul-mod_first, mul-mod_second}
use Rattle.std.specs.Int.{cast_signed, w32}
use Rattle.rv_step.specs.Words.{word, sign_extended}

same_low : (m n : ℕ) → m % 2 ^ 32 ≡ n % 2 ^ 32 → sign_extended (pos m) ≡ sign_extended (pos n)
same_low m n same = ap (λ r. word (cast_signed w32 (r % 2 ^ 32))) same

pub low_product : (a b : ℕ) → sign_extended (pos (a % 2 ^ 32 * (b % 2 ^ 32) % 2 ^ 32)) ≡ sign_extended (pos (a * b))
low_product a b = same_low _ _ (omega (arith, mul-mod_first a (b % 2 ^ 32) (2 ^ 32), mul-mod_second a b (2 ^ 32)))

pub low_shift : (a k : ℕ) → sign_extended (pos (a % 2 ^ 32 * 2 ^ k % 2 ^ 32)) ≡ sign_extended (pos (a * 2 ^ k))
low_shift a k = same_low _ _ (omega (arith, mul-mod_first a (2 ^ k) (2 ^ 32)))

-- Each word that isn't 0 is a power of two times an odd number, and each odd number has an inverse.
use Rattle.std.proofs.Common.{◌≡◌, ◌≢◌, ℕ, zero, suc, ◌+◌, ◌-◌, ◌*◌, ◌/◌, ◌%◌, ◌^◌, ◌<◌, ◌≤◌, w64, ap, ◌∙◌, arith}
use Rattle.std.specs.Int.{trailing_zeros}
use Rattle.std.proofs.lemmas.Nat.Bits.{bit_at-trailing_zeros}
use Rattle.word_rows.specs.Words.{word}
use Rattle.word_rows.proofs.Newton.{turn}
use Rattle.word_rows.proofs.Zeros.{split_at_zeros}

turns : (u k : ℕ) → u % 2 ≡ 1 → k ≤ 6 → (x : ℕ) × ((u * x) % 2 ^ (2 ^ k) ≡ 1)
turns u zero odd le = (1, ap (λ n. n % 2) (let e : u * 1 ≡ u = omega arith in e) ∙ odd)
turns u (suc k) odd le =
    let (x, one) = turns u k odd (omega arith) in
    let s : suc k ≡ k + 1 = omega arith in
    (x * ((2 + (2 ^ 64 - u * x % 2 ^ 64)) % 2 ^ 64) % 2 ^ 64, rw s (turn u x k (omega arith) one))

pub has_inverse : (u : ℕ) → u % 2 ≡ 1 → (x : ℕ) × (word (u * x) ≡ 1)
has_inverse u odd = turns u 6 odd (omega arith)

pub record HasOddPart (w : ℕ) : Type 0 where
  pub power : ℕ
  pub odd : ℕ
  pub product : w ≡ 2 ^ power * odd
  pub is_odd : odd % 2 ≡ 1
  pub small : power < 64

pub has_odd_part : (w : ℕ) → w ≢ 0 → w < 2 ^ 64 → HasOddPart w
has_odd_part w ne fits =
    let t = trailing_zeros w64 w in
    let bits = bit_at-trailing_zeros w64 w (omega arith) fits in
    record { power = t; odd = w / 2 ^ t; product = split_at_zeros w t bits.2; is_odd = bits.1; small = bits.0 }

-- Sets of positions as the bits of numbers.
use Rattle.std.proofs.Common.{◌≡◌, ℕ, ap, sym, ◌∙◌, arith, bit_and, bit_or, min}
use Rattle.std.specs.Int.{bit_at}
use Rattle.std.proofs.lemmas.Nat.Bits.{bit_at_and, bit_at_or, bit_at-zero, same_from_bits}

-- a set shares nothing with two others exactly where it shares nothing with their union
bits_apart : (a b : ℕ) → bit_and a b ≡ 0 → (i : ℕ) → min (bit_at a i) (bit_at b i) ≡ 0
bits_apart a b e i = sym (bit_at_and a b i) ∙ ap (λ n. bit_at n i) e ∙ bit_at-zero i

apart_from_bits : (a b : ℕ) → ((i : ℕ) → min (bit_at a i) (bit_at b i) ≡ 0) → bit_and a b ≡ 0
apart_from_bits a b h = same_from_bits (bit_and a b) 0 (λ i. bit_at_and a b i ∙ h i ∙ sym (bit_at-zero i))

pub union_apart : (a s t : ℕ) → bit_and a t ≡ 0 → bit_and s t ≡ 0 → bit_and (bit_or a s) t ≡ 0
union_apart a s t e f =
    apart_from_bits (bit_or a s) t (λ i. let x = bits_apart a t e i in let y = bits_apart s t f i in let z = bit_at_or a s i in omega arith)

pub parts_apart : (a s t : ℕ) → bit_and (bit_or a s) t ≡ 0 → (bit_and a t ≡ 0) × (bit_and s t ≡ 0)
parts_apart a s t e = (
  apart_from_bits a t (λ i. let x = bits_apart (bit_or a s) t e i in let z = bit_at_or a s i in omega arith),
  apart_from_bits s t (λ i. let x = bits_apart (bit_or a s) t e i in let z = bit_at_or a s i in omega arith),
)

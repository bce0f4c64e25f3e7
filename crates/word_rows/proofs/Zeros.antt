-- A number whose low bits are 0 is a multiple of a power of two.
use Rattle.std.proofs.Common.{◌≡◌, ℕ, zero, suc, ◌+◌, ◌*◌, ◌/◌, ◌%◌, ◌^◌, ◌<◌, ap, ◌∙◌, arith}
use Rattle.std.proofs.lemmas.Nat.{mod-pow-add, shr_split}
use Rattle.std.specs.Int.{bit_at}

low_zeros : (n t : ℕ) → ((i : ℕ) → i < t → bit_at n i ≡ 0) → n % 2 ^ t ≡ 0
low_zeros n zero zeros = omega arith
low_zeros n (suc t) zeros =
    let here : n / 2 ^ t % 2 ≡ 0 = zeros t (omega arith) in
    let low = low_zeros n t (λ i below. zeros i (omega arith)) in
    let whole : n % 2 ^ (1 + t) ≡ (n / 2 ^ t % 2) * 2 ^ t + n % 2 ^ t = mod-pow-add n 1 t in
    let next : n % 2 ^ (1 + t) ≡ 0 = rw whole (rw here (omega arith)) in
    ap (λ k. n % 2 ^ k) (let e : suc t ≡ 1 + t = omega arith in e) ∙ next

pub split_at_zeros : (n t : ℕ) → ((i : ℕ) → i < t → bit_at n i ≡ 0) → n ≡ 2 ^ t * (n / 2 ^ t)
split_at_zeros n t zeros = omega (arith, shr_split n t, low_zeros n t zeros)

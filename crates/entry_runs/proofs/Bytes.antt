-- Eight bytes, read behind a store.
use Rattle.std.proofs.Common.{◌≡◌, ℕ, zero, suc, ◌+◌, ◌*◌, ◌/◌, ◌%◌, ◌^◌, ◌<◌, ◌≤◌, nat_lt, refl, ap, sym, ◌∙◌, arith, subst, if◌then◌else◌}
use Rattle.std.proofs.Math.Nat.{div-div-eq-div-mul}
use Rattle.std.proofs.lemmas.Bool.{lt-ltb, le-ltb}
use Rattle.std.proofs.lemmas.Nat.{mod-pow-add, pow-add}
use Rattle.elf_image.specs.Fetches.{next_byte, read}
use Rattle.rv_step.specs.Effects.{distance, stored}
use Rattle.entry_values.specs.Opaque.{Outside}

abbrev pub behind : ℕ → ℕ → ℕ
behind a k = (a + k) % 2 ^ 64

-- the same bytes are the same number
pub read_same : (count : ℕ) (m n : ℕ → ℕ) (a : ℕ) → a < 2 ^ 64 → ((k : ℕ) → k < count → n (behind a k) ≡ m (behind a k))
    → read count n a ≡ read count m a
unfolding read
read_same zero m n a small same = refl
read_same (suc count) m n a small same =
    let here : behind a 0 ≡ a = omega arith in
    let first : n a ≡ m a = subst (λ (b : ℕ). n b ≡ m b) here (same 0 (omega arith)) in
    let rest : read count n (next_byte a) ≡ read count m (next_byte a) =
    read_same count m n (next_byte a) (omega arith)
    (λ k below.
    let there : behind a (suc k) ≡ behind (next_byte a) k = omega arith in
    subst (λ (b : ℕ). n b ≡ m b) there (same (suc k) (omega arith))) in
    ap (λ (b : ℕ). b + 2 ^ 8 * read count n (next_byte a)) first ∙ ap (λ (r : ℕ). m a + 2 ^ 8 * r) rest

byte_stored : (memory n : ℕ → ℕ) (a value k : ℕ) → a < 2 ^ 64 → k < 8 → ((b : ℕ) → b < 2 ^ 64 → n b ≡ stored 8 a value memory b)
    → n (behind a k) ≡ value / 2 ^ (8 * k) % 2 ^ 8
byte_stored memory n a value k small below made =
    let far : distance a (behind a k) ≡ k = omega arith in
    made (behind a k) (omega arith)
    ∙ ap (λ (d : ℕ). if nat_lt d 8 then value / 2 ^ (8 * d) % 2 ^ 8 else memory (behind a k)) far
    ∙ ap (λ b. if b then value / 2 ^ (8 * k) % 2 ^ 8 else memory (behind a k)) (lt-ltb k 8 below)

byte_more : (k : ℕ) → 2 ^ (8 * (k + 1)) ≡ 2 ^ (8 * k) * 2 ^ 8
byte_more k = ap (λ (m : ℕ). 2 ^ m) (let e : 8 * (k + 1) ≡ 8 * k + 8 = omega arith in e) ∙ pow-add 2 (8 * k) 8

bytes_stored : (count k value : ℕ) (n : ℕ → ℕ) (a : ℕ) → ((i : ℕ) → i < k + count → n (behind a i) ≡ value / 2 ^ (8 * i) % 2 ^ 8)
    → read count n (behind a k) ≡ value / 2 ^ (8 * k) % 2 ^ (8 * count)
unfolding read
bytes_stored zero k value n a bytes = let e : value / 2 ^ (8 * k) % 1 ≡ 0 = omega arith in sym e
bytes_stored (suc count) k value n a bytes =
    let here = bytes k (omega arith) in
    let step : next_byte (behind a k) ≡ behind a (k + 1) = omega arith in
    let rest : read count n (next_byte (behind a k)) ≡ value / 2 ^ (8 * (k + 1)) % 2 ^ (8 * count) =
    ap (read count n) step ∙ bytes_stored count (k + 1) value n a (λ i below. bytes i (omega arith)) in
    let x = value / 2 ^ (8 * k) in
    let shifted : x / 2 ^ 8 ≡ value / 2 ^ (8 * (k + 1)) =
    div-div-eq-div-mul value (2 ^ (8 * k)) (2 ^ 8) ∙ ap (λ (p : ℕ). value / p) (sym (byte_more k)) in
    ap (λ (b : ℕ). b + 2 ^ 8 * read count n (next_byte (behind a k))) here
    ∙ ap (λ (r : ℕ). x % 2 ^ 8 + 2 ^ 8 * r) (rest ∙ ap (λ (y : ℕ). y % 2 ^ (8 * count)) (sym shifted))
    ∙ (let e : x % 2 ^ 8 + 2 ^ 8 * (x / 2 ^ 8 % 2 ^ (8 * count)) ≡ (x / 2 ^ 8 % 2 ^ (8 * count)) * 2 ^ 8 + x % 2 ^ 8 = omega arith in e)
    ∙ sym (mod-pow-add x (8 * count) 8)
    ∙ ap (λ (m : ℕ). x % 2 ^ m) (let e : 8 * count + 8 ≡ 8 * suc count = omega arith in e)

-- eight bytes of a store are its value
pub word_stored : (memory n : ℕ → ℕ) (a value : ℕ) → a < 2 ^ 64 → value < 2 ^ 64 → ((b : ℕ) → b < 2 ^ 64 → n b ≡ stored 8 a value memory b)
    → read 8 n a ≡ value
word_stored memory n a value small fits made =
    let here : behind a 0 ≡ a = omega arith in
    ap (read 8 n) (sym here) ∙ bytes_stored 8 0 value n a (λ i below. byte_stored memory n a value i small below made)
    ∙ (let e : value / 2 ^ (8 * 0) % 2 ^ (8 * 8) ≡ value = omega arith in e)

-- a byte that a store doesn't reach
pub byte_spared : (memory n : ℕ → ℕ) (w a value : ℕ) → ((c : ℕ) → c < 2 ^ 64 → n c ≡ stored w a value memory c) → Outside w a memory n
byte_spared memory n w a value made b small far =
    made b small ∙ ap (λ t. if t then value / 2 ^ (8 * distance a b) % 2 ^ 8 else memory b) (le-ltb (distance a b) w far)

-- eight bytes at word distance from what may change, modulo 2^64
pub word_apart : (memory n : ℕ → ℕ) (w a b : ℕ) → a < 2 ^ 64 → b < 2 ^ 64 → Outside w a memory n
    → w ≤ distance a b → 8 ≤ distance b a → read 8 n b ≡ read 8 memory b
word_apart memory n w a b small within outside far near =
    read_same 8 memory n b within (λ k below. outside (behind b k) (omega arith) (omega arith))

-- The bytes of a number in memory.
use Rattle.std.proofs.Common.{◌≡◌, ℕ, zero, suc, ◌+◌, ◌*◌, ◌/◌, ◌%◌, ◌^◌, ◌<◌, ap, sym, ◌∙◌, arith}
use Rattle.std.proofs.Math.Nat.{div-div-eq-div-mul}
use Rattle.std.proofs.lemmas.Nat.{pow-add}
use Rattle.elf_image.specs.Fetches.{next_byte, read}
use Rattle.run_paths.specs.Activations.{behind}
use Rattle.run_watch.specs.Judges.{byte}

first_byte : (low rest : ℕ) → low < 2 ^ 8 → (low + 2 ^ 8 * rest) / 2 ^ (8 * 0) % 2 ^ 8 ≡ low
first_byte low rest small = omega arith

without_first : (low rest : ℕ) → low < 2 ^ 8 → (low + 2 ^ 8 * rest) / 2 ^ 8 ≡ rest
without_first low rest small = omega arith

later_byte : (w k : ℕ) → byte (suc k) w ≡ byte k (w / 2 ^ 8)
later_byte w k =
    let more : 2 ^ (8 * suc k) ≡ 2 ^ 8 * 2 ^ (8 * k) =
    ap (λ (m : ℕ). 2 ^ m) (let e : 8 * suc k ≡ 8 + 8 * k = omega arith in e) ∙ pow-add 2 8 (8 * k) in
    ap (λ (p : ℕ). w / p % 2 ^ 8) more ∙ ap (λ (q : ℕ). q % 2 ^ 8) (sym (div-div-eq-div-mul w (2 ^ 8) (2 ^ (8 * k))))

-- byte k of a number is the byte k behind its address
pub byte_read : (count : ℕ) (memory : ℕ → ℕ) (a k : ℕ) → a < 2 ^ 64 → k < count → ((b : ℕ) → b < 2 ^ 64 → memory b < 2 ^ 8)
    → byte k (read count memory a) ≡ memory (behind a k)
unfolding read
byte_read zero memory a k small below bytes = absurd (omega (arith, below))
byte_read (suc count) memory a zero small below bytes =
    first_byte (memory a) (read count memory (next_byte a)) (bytes a small)
    ∙ ap memory (let e : a ≡ behind a 0 = omega arith in e)
byte_read (suc count) memory a (suc k) small below bytes =
    later_byte (memory a + 2 ^ 8 * read count memory (next_byte a)) k
    ∙ ap (byte k) (without_first (memory a) (read count memory (next_byte a)) (bytes a small))
    ∙ byte_read count memory (next_byte a) k (omega arith) (omega arith) bytes
    ∙ ap memory (let e : behind (next_byte a) k ≡ behind a (suc k) = omega arith in e)

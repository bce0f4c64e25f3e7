-- Numbers in memory.
use Rattle.std.proofs.Common.{◌≡◌, ℕ, zero, suc, ◌+◌, ◌*◌, ◌^◌, ◌<◌, refl, ap, ◌∙◌, arith, subst}
use Rattle.elf_image.specs.Fetches.{next_byte, read}
use Rattle.run_paths.specs.Activations.{behind}

-- the same bytes are the same number
pub read_same : (count : ℕ) (m n : ℕ → ℕ) (a : ℕ) → a < 2 ^ 64 → ((k : ℕ) → k < count → n (behind a k) ≡ m (behind a k))
    → read count n a ≡ read count m a
unfolding read
read_same zero m n a small same = refl
read_same (suc count) m n a small same =
    let here : behind a 0 ≡ a = omega arith in
    let first : n a ≡ m a = subst (λ (b : ℕ). n b ≡ m b) here (same 0 (omega arith)) in
    let rest : read count n (next_byte a) ≡ read count m (next_byte a) =
    read_same count m n (next_byte a) (omega arith)
    (λ k below.
    let there : behind a (suc k) ≡ behind (next_byte a) k = omega arith in
    subst (λ (b : ℕ). n b ≡ m b) there (same (suc k) (omega arith))) in
    ap (λ (b : ℕ). b + 2 ^ 8 * read count n (next_byte a)) first ∙ ap (λ (r : ℕ). m a + 2 ^ 8 * r) rest

-- Numbers in memory, by their bytes.
use Rattle.std.proofs.Common.{◌≡◌, ℕ, ◌+◌, ◌*◌, ◌%◌, ◌^◌, ap, arith}
use Rattle.elf_image.specs.Fetches.{next_byte, read}

pub read_2 : (memory : ℕ → ℕ) (a : ℕ) → read 2 memory a ≡ memory a + 2 ^ 8 * memory ((a + 1) % 2 ^ 64)
unfolding read
read_2 memory a = omega arith

two_on : (a : ℕ) → next_byte (next_byte a) ≡ (a + 2) % 2 ^ 64
two_on a = omega arith

three_on : (a : ℕ) → next_byte (next_byte (next_byte a)) ≡ (a + 3) % 2 ^ 64
three_on a = omega arith

pub read_4 : (memory : ℕ → ℕ) (a : ℕ) → read 4 memory a ≡ memory a + 2 ^ 8 * memory ((a + 1) % 2 ^ 64) + 2 ^ 16 * memory ((a + 2) % 2 ^ 64) + 2 ^ 24 * memory ((a + 3) % 2 ^ 64)
unfolding read
read_4 memory a =
    let at_2 = ap memory (two_on a) in
    let at_3 = ap memory (three_on a) in
    omega arith

pub read_1 : (memory : ℕ → ℕ) (a : ℕ) → read 1 memory a ≡ memory a
unfolding read
read_1 memory a = omega arith

pub read_8 : (memory : ℕ → ℕ) (a : ℕ) → read 8 memory a ≡ read 4 memory a + 2 ^ 32 * read 4 memory ((a + 4) % 2 ^ 64)
unfolding read
read_8 memory a =
    let at_4 : next_byte (next_byte (next_byte (next_byte a))) ≡ (a + 4) % 2 ^ 64 = omega arith in
    let rest = ap (read 4 memory) at_4 in
    omega arith

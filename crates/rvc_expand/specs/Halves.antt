-- The fields of the 16-bit instruction words of the extension C: RISC-V Unprivileged ISA, "Compressed
-- Instruction Formats". Such a word is called a half.
--
--   rd_field half            bits 11:7, a register. It is rs1 as well, or rs1 alone
--   rs2_field half           bits 6:2, a register
--   short_register half low  the register, x8 to x15, that the three bits from bit low on name
--   gathered half pieces     the number whose bits stand in pieces of the half. A piece (low, high, last)
--                            says that the bits imm[high:last] stand from bit low of the half on
--   signed k n               n, of k bits, in two's complement
--   in_bits k z              the number of k bits that is z in two's complement
--   IsIn half op funct3      the half's bits 1:0 and 15:13
use Rattle.std.specs.Prelude.{◌≡◌, ℕ, ◌+◌, ◌-◌, ◌*◌, ◌^◌, nat_lt, if◌then◌else◌, ℤ, pos, negsuc, ◌-ℤ◌, List, [], ◌∷◌}
use Rattle.rv_decode.specs.Layouts.{bits_at}

abbrev pub rd_field : ℕ → ℕ
rd_field half = bits_at half 7 5

abbrev pub rs2_field : ℕ → ℕ
rs2_field half = bits_at half 2 5

abbrev pub short_register : ℕ → ℕ → ℕ
short_register half low = 8 + bits_at half low 3

abbrev pub gathered : ℕ → List (ℕ × ℕ × ℕ) → ℕ
gathered half [] = 0
gathered half (piece ∷ pieces) =
    bits_at half piece.0 (piece.1 + 1 - piece.2) * 2 ^ piece.2 + gathered half pieces

unfoldable pub signed : ℕ → ℕ → ℤ
signed k n = if nat_lt n (2 ^ (k - 1)) then pos n else pos n -ℤ pos (2 ^ k)

unfoldable pub in_bits : ℕ → ℤ → ℕ
in_bits k (pos n) = n
in_bits k (negsuc n) = 2 ^ k - (n + 1)

pub record IsIn (half op funct3 : ℕ) : Type 0 where
  pub op_is : bits_at half 0 2 ≡ op
  pub funct3_is : bits_at half 13 3 ≡ funct3

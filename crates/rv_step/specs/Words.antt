-- Words of 64 bits, read as whole numbers and as signed numbers: RISC-V Unprivileged ISA, "RV64I Base
-- Integer Instruction Set". A result is computed whole, on numbers without bounds, and wrapped once.
--
--   wrap k z           the k low bits of the whole number z, in two's complement, as a number below 2^k
--   word z             z in 64 bits
--   signed a           the word a read as signed
--   low a              the 32 low bits of the word a
--   signed_low a       those read as signed
--   sign_extended z    the 32 low bits of z, extended by their sign to 64
--   halved z k         z divided by 2^k and rounded down: a shift to the right that keeps the sign
--   test b             1 where b is true, else 0
use Rattle.std.specs.Prelude.{ℕ, ◌-◌, ◌%◌, ◌^◌, ℤ, pos, negsuc, Bool, if◌then◌else◌}
use Rattle.std.specs.Int.{cast_signed, int_shr, w32, w64}

abbrev pub wrap : ℕ → ℤ → ℕ
wrap k (pos n) = n % 2 ^ k
wrap k (negsuc n) = 2 ^ k - 1 - n % 2 ^ k

abbrev pub word : ℤ → ℕ
word z = wrap 64 z

abbrev pub signed : ℕ → ℤ
signed a = cast_signed w64 a

abbrev pub low : ℕ → ℕ
low a = a % 2 ^ 32

abbrev pub signed_low : ℕ → ℤ
signed_low a = cast_signed w32 (low a)

abbrev pub sign_extended : ℤ → ℕ
sign_extended z = word (signed_low (wrap 32 z))

abbrev pub halved : ℤ → ℕ → ℤ
halved z k = int_shr z k

abbrev pub test : Bool → ℕ
test b = if b then 1 else 0

-- The immediates of compressed instructions, each with the places of its bits: RISC-V Unprivileged ISA,
-- "RVC Instruction Set Listings". Bits that are not named are 0.
--
--   addi4spn_bits half   of C.ADDI4SPN
--   word_bits half       of C.LW and C.SW
--   double_bits half     of C.LD and C.SD
--   six_bits half        of C.ADDI, C.ADDIW, C.LI, C.LUI, C.ANDI and of the shifts
--   addi16sp_bits half   of C.ADDI16SP
--   jump_bits half       of C.J
--   branch_bits half     of C.BEQZ and C.BNEZ
--   lwsp_bits half, ldsp_bits half, swsp_bits half, sdsp_bits half
--                        of the loads and stores at the stack pointer
use Rattle.std.specs.Prelude.{ℕ, [], ◌∷◌}
use Rattle.rvc_expand.specs.Halves.{gathered}

unfoldable pub addi4spn_bits : ℕ → ℕ
addi4spn_bits half = gathered half ((11, 5, 4) ∷ (7, 9, 6) ∷ (6, 2, 2) ∷ (5, 3, 3) ∷ [])

unfoldable pub word_bits : ℕ → ℕ
word_bits half = gathered half ((10, 5, 3) ∷ (6, 2, 2) ∷ (5, 6, 6) ∷ [])

unfoldable pub double_bits : ℕ → ℕ
double_bits half = gathered half ((10, 5, 3) ∷ (5, 7, 6) ∷ [])

unfoldable pub six_bits : ℕ → ℕ
six_bits half = gathered half ((12, 5, 5) ∷ (2, 4, 0) ∷ [])

unfoldable pub addi16sp_bits : ℕ → ℕ
addi16sp_bits half = gathered half ((12, 9, 9) ∷ (6, 4, 4) ∷ (5, 6, 6) ∷ (3, 8, 7) ∷ (2, 5, 5) ∷ [])

unfoldable pub jump_bits : ℕ → ℕ
jump_bits half = gathered half
    ((12, 11, 11) ∷ (11, 4, 4) ∷ (9, 9, 8) ∷ (8, 10, 10) ∷ (7, 6, 6) ∷ (6, 7, 7) ∷ (3, 3, 1) ∷ (2, 5, 5) ∷ [])

unfoldable pub branch_bits : ℕ → ℕ
branch_bits half = gathered half ((12, 8, 8) ∷ (10, 4, 3) ∷ (5, 7, 6) ∷ (3, 2, 1) ∷ (2, 5, 5) ∷ [])

unfoldable pub lwsp_bits : ℕ → ℕ
lwsp_bits half = gathered half ((12, 5, 5) ∷ (4, 4, 2) ∷ (2, 7, 6) ∷ [])

unfoldable pub ldsp_bits : ℕ → ℕ
ldsp_bits half = gathered half ((12, 5, 5) ∷ (5, 4, 3) ∷ (2, 8, 6) ∷ [])

unfoldable pub swsp_bits : ℕ → ℕ
swsp_bits half = gathered half ((9, 5, 2) ∷ (7, 7, 6) ∷ [])

unfoldable pub sdsp_bits : ℕ → ℕ
sdsp_bits half = gathered half ((10, 5, 3) ∷ (7, 8, 6) ∷ [])

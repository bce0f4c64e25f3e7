-- A half has one instruction, and so has a word with its length.
use Rattle.std.proofs.Common.{◌≡◌, ℕ, arith}
use Rattle.rv_instr.specs.declared.Instr.{Instr}
use Rattle.rv_decode.proofs.Table.{one_instruction}
use Rattle.rvc_expand.specs.Lengths.{MeansWithLength}
use Rattle.rvc_expand.specs.Lengths.MeansWithLength.{whole, half}
use Rattle.rvc_expand.specs.Rows.{Expands}
use Rattle.rvc_expand.specs.Rows.Expands.{c_addi4spn, c_lw, c_ld, c_sw, c_sd, c_addi, c_addiw, c_li, c_addi16sp, c_lui, c_srli, c_srai, c_andi, c_sub, c_xor, c_or, c_and, c_subw, c_addw, c_j, c_beqz, c_bnez, c_slli, c_lwsp, c_ldsp, c_jr, c_mv, c_ebreak, c_jalr, c_add, c_swsp, c_sdsp}

pub one_expansion : (w : ℕ) (i j : Instr) → Expands w i → Expands w j → i ≡ j
one_expansion w i j (c_addi4spn a b c) other = grind arith
one_expansion w i j (c_lw a b) other = grind arith
one_expansion w i j (c_ld a b) other = grind arith
one_expansion w i j (c_sw a b) other = grind arith
one_expansion w i j (c_sd a b) other = grind arith
one_expansion w i j (c_addi a b) other = grind arith
one_expansion w i j (c_addiw a b c) other = grind arith
one_expansion w i j (c_li a b) other = grind arith
one_expansion w i j (c_addi16sp a b c d) other = grind arith
one_expansion w i j (c_lui a b c d) other = grind arith
one_expansion w i j (c_srli a b c) other = grind arith
one_expansion w i j (c_srai a b c) other = grind arith
one_expansion w i j (c_andi a b c) other = grind arith
one_expansion w i j (c_sub a b c d) other = grind arith
one_expansion w i j (c_xor a b c d) other = grind arith
one_expansion w i j (c_or a b c d) other = grind arith
one_expansion w i j (c_and a b c d) other = grind arith
one_expansion w i j (c_subw a b c d) other = grind arith
one_expansion w i j (c_addw a b c d) other = grind arith
one_expansion w i j (c_j a b) other = grind arith
one_expansion w i j (c_beqz a b) other = grind arith
one_expansion w i j (c_bnez a b) other = grind arith
one_expansion w i j (c_slli a b) other = grind arith
one_expansion w i j (c_lwsp a b c) other = grind arith
one_expansion w i j (c_ldsp a b c) other = grind arith
one_expansion w i j (c_jr a b c d e) other = grind arith
one_expansion w i j (c_mv a b c d) other = grind arith
one_expansion w i j (c_ebreak a b c d e) other = grind arith
one_expansion w i j (c_jalr a b c d e) other = grind arith
one_expansion w i j (c_add a b c d) other = grind arith
one_expansion w i j (c_swsp a b) other = grind arith
one_expansion w i j (c_sdsp a b) other = grind arith

pub one_meaning : (word length : ℕ) (i j : Instr) → MeansWithLength word length i → MeansWithLength word length j → i ≡ j
one_meaning word length i j (whole a b) (whole c d) = one_instruction word i j b d
one_meaning word length i j (whole a b) (half c d e) = absurd (omega arith)
one_meaning word length i j (half a b c) (whole d e) = absurd (omega arith)
one_meaning word length i j (half a b c) (half d e f) = one_expansion word i j c f

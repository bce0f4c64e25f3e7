-- The table of compressed instructions: RISC-V Unprivileged ISA, "RVC Instruction Set Listings", the
-- rows of RV64C that have no floating point. A row has the ISA's name; it says which halves it has, and
-- to which instruction it expands them. It is read in neither direction. Hints are in their rows.
--
--   Expands half instr   a row has the half, and expands it to the instruction
--
-- Register 1 is ra and register 2 is sp.
use Rattle.std.specs.Prelude.{◌≡◌, ◌≢◌, ℕ, pos}
use Rattle.rv_decode.specs.Layouts.{bits_at}
use Rattle.rv_instr.specs.declared.Instr.{Instr}
use Rattle.rv_instr.specs.declared.Instr.TheVariants.{Lui, Jal, Jalr, Branch, Load, Store, Imm, Shift, Reg, Ebreak}
use Rattle.rv_instr.specs.declared.BranchOp.TheVariants.{Beq, Bne}
use Rattle.rv_instr.specs.declared.LoadOp.TheVariants.{Lw, Ld}
use Rattle.rv_instr.specs.declared.StoreOp.TheVariants.{Sw, Sd}
use Rattle.rv_instr.specs.declared.ImmOp.TheVariants.{Addi, Andi, Addiw}
use Rattle.rv_instr.specs.declared.ShiftOp.TheVariants.{Slli, Srli, Srai}
use Rattle.rv_instr.specs.declared.RegOp.TheVariants.{Add, Sub, Xor, Or, And, Addw, Subw}
use Rattle.rvc_expand.specs.Halves.{rd_field, rs2_field, short_register, signed, in_bits, IsIn}
use Rattle.rvc_expand.specs.Immediates.{addi4spn_bits, word_bits, double_bits, six_bits, addi16sp_bits, jump_bits, branch_bits, lwsp_bits, ldsp_bits, swsp_bits, sdsp_bits}

pub data Expands (half : ℕ) (instr : Instr) : Type 0 where
  -- quadrant 0
  c_addi4spn : IsIn half 0 0 → addi4spn_bits half ≢ 0
      → instr ≡ Imm Addi (short_register half 2) 2 (pos (addi4spn_bits half)) → Expands half instr
  c_lw : IsIn half 0 2
      → instr ≡ Load Lw (short_register half 2) (short_register half 7) (pos (word_bits half)) → Expands half instr
  c_ld : IsIn half 0 3
      → instr ≡ Load Ld (short_register half 2) (short_register half 7) (pos (double_bits half)) → Expands half instr
  c_sw : IsIn half 0 6
      → instr ≡ Store Sw (short_register half 7) (short_register half 2) (pos (word_bits half)) → Expands half instr
  c_sd : IsIn half 0 7
      → instr ≡ Store Sd (short_register half 7) (short_register half 2) (pos (double_bits half)) → Expands half instr
  -- quadrant 1
  c_addi : IsIn half 1 0
      → instr ≡ Imm Addi (rd_field half) (rd_field half) (signed 6 (six_bits half)) → Expands half instr
  c_addiw : IsIn half 1 1 → rd_field half ≢ 0
      → instr ≡ Imm Addiw (rd_field half) (rd_field half) (signed 6 (six_bits half)) → Expands half instr
  c_li : IsIn half 1 2
      → instr ≡ Imm Addi (rd_field half) 0 (signed 6 (six_bits half)) → Expands half instr
  c_addi16sp : IsIn half 1 3 → rd_field half ≡ 2 → addi16sp_bits half ≢ 0
      → instr ≡ Imm Addi 2 2 (signed 10 (addi16sp_bits half)) → Expands half instr
  c_lui : IsIn half 1 3 → rd_field half ≢ 2 → six_bits half ≢ 0
      → instr ≡ Lui (rd_field half) (in_bits 20 (signed 6 (six_bits half))) → Expands half instr
  c_srli : IsIn half 1 4 → bits_at half 10 2 ≡ 0
      → instr ≡ Shift Srli (short_register half 7) (short_register half 7) (six_bits half) → Expands half instr
  c_srai : IsIn half 1 4 → bits_at half 10 2 ≡ 1
      → instr ≡ Shift Srai (short_register half 7) (short_register half 7) (six_bits half) → Expands half instr
  c_andi : IsIn half 1 4 → bits_at half 10 2 ≡ 2
      → instr ≡ Imm Andi (short_register half 7) (short_register half 7) (signed 6 (six_bits half)) → Expands half instr
  c_sub : IsIn half 1 4 → bits_at half 10 3 ≡ 3 → bits_at half 5 2 ≡ 0
      → instr ≡ Reg Sub (short_register half 7) (short_register half 7) (short_register half 2) → Expands half instr
  c_xor : IsIn half 1 4 → bits_at half 10 3 ≡ 3 → bits_at half 5 2 ≡ 1
      → instr ≡ Reg Xor (short_register half 7) (short_register half 7) (short_register half 2) → Expands half instr
  c_or : IsIn half 1 4 → bits_at half 10 3 ≡ 3 → bits_at half 5 2 ≡ 2
      → instr ≡ Reg Or (short_register half 7) (short_register half 7) (short_register half 2) → Expands half instr
  c_and : IsIn half 1 4 → bits_at half 10 3 ≡ 3 → bits_at half 5 2 ≡ 3
      → instr ≡ Reg And (short_register half 7) (short_register half 7) (short_register half 2) → Expands half instr
  c_subw : IsIn half 1 4 → bits_at half 10 3 ≡ 7 → bits_at half 5 2 ≡ 0
      → instr ≡ Reg Subw (short_register half 7) (short_register half 7) (short_register half 2) → Expands half instr
  c_addw : IsIn half 1 4 → bits_at half 10 3 ≡ 7 → bits_at half 5 2 ≡ 1
      → instr ≡ Reg Addw (short_register half 7) (short_register half 7) (short_register half 2) → Expands half instr
  c_j : IsIn half 1 5
      → instr ≡ Jal 0 (signed 12 (jump_bits half)) → Expands half instr
  c_beqz : IsIn half 1 6
      → instr ≡ Branch Beq (short_register half 7) 0 (signed 9 (branch_bits half)) → Expands half instr
  c_bnez : IsIn half 1 7
      → instr ≡ Branch Bne (short_register half 7) 0 (signed 9 (branch_bits half)) → Expands half instr
  -- quadrant 2
  c_slli : IsIn half 2 0
      → instr ≡ Shift Slli (rd_field half) (rd_field half) (six_bits half) → Expands half instr
  c_lwsp : IsIn half 2 2 → rd_field half ≢ 0
      → instr ≡ Load Lw (rd_field half) 2 (pos (lwsp_bits half)) → Expands half instr
  c_ldsp : IsIn half 2 3 → rd_field half ≢ 0
      → instr ≡ Load Ld (rd_field half) 2 (pos (ldsp_bits half)) → Expands half instr
  c_jr : IsIn half 2 4 → bits_at half 12 1 ≡ 0 → rs2_field half ≡ 0 → rd_field half ≢ 0
      → instr ≡ Jalr 0 (rd_field half) (pos 0) → Expands half instr
  c_mv : IsIn half 2 4 → bits_at half 12 1 ≡ 0 → rs2_field half ≢ 0
      → instr ≡ Reg Add (rd_field half) 0 (rs2_field half) → Expands half instr
  c_ebreak : IsIn half 2 4 → bits_at half 12 1 ≡ 1 → rs2_field half ≡ 0 → rd_field half ≡ 0
      → instr ≡ Ebreak → Expands half instr
  c_jalr : IsIn half 2 4 → bits_at half 12 1 ≡ 1 → rs2_field half ≡ 0 → rd_field half ≢ 0
      → instr ≡ Jalr 1 (rd_field half) (pos 0) → Expands half instr
  c_add : IsIn half 2 4 → bits_at half 12 1 ≡ 1 → rs2_field half ≢ 0
      → instr ≡ Reg Add (rd_field half) (rd_field half) (rs2_field half) → Expands half instr
  c_swsp : IsIn half 2 6
      → instr ≡ Store Sw 2 (rs2_field half) (pos (swsp_bits half)) → Expands half instr
  c_sdsp : IsIn half 2 7
      → instr ≡ Store Sd 2 (rs2_field half) (pos (sdsp_bits half)) → Expands half instr

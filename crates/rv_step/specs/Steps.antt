-- The table of what instructions do: RISC-V Unprivileged ISA, RV64I and "M". A row for each form of
-- instruction; what the form's operations compute stands in Results. In a row m is the machine before,
-- n the machine after, next the address after the instruction, and off, imm the signed numbers of its
-- immediate. Sums of addresses wrap at 2^64; the bytes of a load or a store may lie at any alignment.
--
--   loaded op memory a        what a load gives: bytes from a on, the least first, extended by their sign or by zeros
--   store_width op            the bytes that a store writes
--   even a                    a with bit 0 cleared
--   Executes instr next m n   the row of instr leads from m to n
--   IsAt m at instr           what is fetched at m's pc is `at`, and it means instr
--   Step m n                  the word fetched at m's pc means an instruction whose row leads from m to n
use Rattle.std.specs.Prelude.{◌≡◌, ℕ, ◌+◌, ◌-◌, ◌%◌, pos, ◌+ℤ◌, Some, if◌then◌else◌}
use Rattle.std.specs.Int.{cast_signed, w8, w16}
use Rattle.elf_image.specs.Fetches.{read}
use Rattle.elf_image.specs.declared.fetched.Fetched.{Fetched}
use Rattle.rv_instr.specs.declared.Instr.{Instr}
use Rattle.rv_instr.specs.declared.Instr.TheVariants.{Lui, Auipc, Jal, Jalr, Branch, Load, Store, Imm, Shift, Reg, Fence, Ecall, Ebreak}
use Rattle.rv_instr.specs.declared.LoadOp.{LoadOp}
use Rattle.rv_instr.specs.declared.LoadOp.TheVariants.{Lb, Lh, Lw, Ld, Lbu, Lhu, Lwu}
use Rattle.rv_instr.specs.declared.StoreOp.{StoreOp}
use Rattle.rv_instr.specs.declared.StoreOp.TheVariants.{Sb, Sh, Sw, Sd}
use Rattle.rvc_expand.specs.Lengths.{MeansWithLength}
use Rattle.rv_step.specs.Words.{word, sign_extended}
use Rattle.rv_step.specs.Results.{upper, reg_result, imm_result, shift_result, is_taken}
use Rattle.rv_step.specs.Harts.{Hart, x, fetched}
use Rattle.rv_step.specs.Effects.{Writes, Stores, Calls}

abbrev pub loaded : LoadOp → (ℕ → ℕ) → ℕ → ℕ
loaded Lb memory a = word (cast_signed w8 (read 1 memory a))
loaded Lh memory a = word (cast_signed w16 (read 2 memory a))
loaded Lw memory a = sign_extended (pos (read 4 memory a))
loaded Ld memory a = read 8 memory a
loaded Lbu memory a = read 1 memory a
loaded Lhu memory a = read 2 memory a
loaded Lwu memory a = read 4 memory a

abbrev pub store_width : StoreOp → ℕ
store_width Sb = 1
store_width Sh = 2
store_width Sw = 4
store_width Sd = 8

abbrev pub even : ℕ → ℕ
even a = a - a % 2

abbrev pub Executes : Instr → ℕ → Hart → Hart → Type 0
Executes (Lui rd imm) next m n = Writes m rd (upper imm) next n
Executes (Auipc rd imm) next m n = Writes m rd (word (pos (m.pc + upper imm))) next n
Executes (Jal rd off) next m n = Writes m rd next (word (pos m.pc +ℤ off)) n
Executes (Jalr rd rs1 imm) next m n = Writes m rd next (even (word (pos (x m rs1) +ℤ imm))) n
Executes (Branch op rs1 rs2 off) next m n =
    Writes m 0 0 (if is_taken op (x m rs1) (x m rs2) then word (pos m.pc +ℤ off) else next) n
Executes (Load op rd rs1 imm) next m n =
    Writes m rd (loaded op m.memory (word (pos (x m rs1) +ℤ imm))) next n
Executes (Store op rs1 rs2 imm) next m n =
    Stores m (store_width op) (word (pos (x m rs1) +ℤ imm)) (x m rs2) next n
Executes (Imm op rd rs1 imm) next m n = Writes m rd (imm_result op (x m rs1) imm) next n
Executes (Shift op rd rs1 by) next m n = Writes m rd (shift_result op (x m rs1) by) next n
Executes (Reg op rd rs1 rs2) next m n = Writes m rd (reg_result op (x m rs1) (x m rs2)) next n
Executes (Fence rd rs1 imm) next m n = Writes m 0 0 next n
Executes Ecall next m n = Calls m next n
Executes Ebreak next m n = ⊥

pub record IsAt (m : Hart) (at : Fetched) (instr : Instr) : Type 0 where
  pub fetches : fetched m ≡ Some at
  pub means : MeansWithLength at.word at.length instr

pub record Step (m n : Hart) : Type 0 where
  pub at : Fetched
  pub instr : Instr
  pub is_at : IsAt m at instr
  pub executes : Executes instr (word (pos (m.pc + at.length))) m n

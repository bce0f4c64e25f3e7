-- A word has one instruction.
use Rattle.std.proofs.Common.{◌≡◌, ◌≤◌, ◌<◌, ◌%◌, ◌^◌, ℕ, ℤ, arith}
use Rattle.rv_decode.specs.Instructions.{Means, IsWellFormed, imm_row, reg_row}
use Rattle.rv_instr.specs.declared.Instr.{Instr}
use Rattle.rv_instr.specs.declared.Instr.TheVariants.{Lui, Auipc, Jal, Jalr, Branch, Load, Store, Imm, Shift, Reg, Fence, Ecall, Ebreak}
use Rattle.rv_instr.specs.declared.BranchOp.{BranchOp}
use Rattle.rv_instr.specs.declared.LoadOp.{LoadOp}
use Rattle.rv_instr.specs.declared.StoreOp.{StoreOp}
use Rattle.rv_instr.specs.declared.ImmOp.{ImmOp}
use Rattle.rv_instr.specs.declared.ShiftOp.{ShiftOp}
use Rattle.rv_instr.specs.declared.RegOp.{RegOp}

-- i is the one instruction of each word that it has
abbrev IsOnly : Instr → Type 0
IsOnly i = (w : ℕ) (j : Instr) → Means w i → Means w j → i ≡ j

only_lui : (rd imm : ℕ) → IsOnly (Lui rd imm)
only_lui rd imm w j m n = grind arith

only_auipc : (rd imm : ℕ) → IsOnly (Auipc rd imm)
only_auipc rd imm w j m n = grind arith

only_jal : (rd : ℕ) (off : ℤ) → IsOnly (Jal rd off)
only_jal rd off w j m n = grind arith

only_jalr : (rd rs1 : ℕ) (imm : ℤ) → IsOnly (Jalr rd rs1 imm)
only_jalr rd rs1 imm w j m n = grind arith

only_branch : (op : BranchOp) (rs1 rs2 : ℕ) (off : ℤ) → IsOnly (Branch op rs1 rs2 off)
only_branch op rs1 rs2 off w j m n = grind arith

only_load : (op : LoadOp) (rd rs1 : ℕ) (imm : ℤ) → IsOnly (Load op rd rs1 imm)
only_load op rd rs1 imm w j m n = grind arith

only_store : (op : StoreOp) (rs1 rs2 : ℕ) (imm : ℤ) → IsOnly (Store op rs1 rs2 imm)
only_store op rs1 rs2 imm w j m n = grind arith

only_imm : (op : ImmOp) (rd rs1 : ℕ) (imm : ℤ) → IsOnly (Imm op rd rs1 imm)
only_imm op rd rs1 imm w j m n = grind arith

only_shift : (op : ShiftOp) (rd rs1 by : ℕ) → IsOnly (Shift op rd rs1 by)
only_shift op rd rs1 by w j m n = grind arith

only_fence : (rd rs1 : ℕ) (imm : ℤ) → IsOnly (Fence rd rs1 imm)
only_fence rd rs1 imm w j m n = grind arith

only_ecall : IsOnly Ecall
only_ecall w j m n = grind arith

only_ebreak : IsOnly Ebreak
only_ebreak w j m n = grind arith

same_reg_row : (a b : RegOp) → (reg_row a).opcode ≡ (reg_row b).opcode
    → (reg_row a).funct3 ≡ (reg_row b).funct3 → (reg_row a).funct7 ≡ (reg_row b).funct7 → a ≡ b
same_reg_row a b opcode funct3 funct7 = grind arith

reg_opcode : (op : RegOp)
    → (0x33 ≤ (reg_row op).opcode) × ((reg_row op).opcode ≤ 0x3b) × ((reg_row op).opcode % 8 ≡ 3)
reg_opcode op = (grind arith, grind arith, grind arith)

imm_opcode : (op : ImmOp) → (imm_row op).opcode ≤ 0x1b
imm_opcode op = grind arith

shift_opcode : (w rd rs1 by : ℕ) (op : ShiftOp) → Means w (Shift op rd rs1 by) → w % 128 ≤ 0x1b
shift_opcode w rd rs1 by op m = grind arith

only_reg : (op : RegOp) (rd rs1 rs2 : ℕ) → IsOnly (Reg op rd rs1 rs2)
only_reg op rd rs1 rs2 w (Reg op' rd' rs1' rs2') m n =
    let same : op ≡ op' = same_reg_row op op' (omega arith) (omega arith) (omega arith) in
    let rd_is : rd ≡ rd' = omega arith in
    let rs1_is : rs1 ≡ rs1' = omega arith in
    let rs2_is : rs2 ≡ rs2' = omega arith in
    cc
only_reg op rd rs1 rs2 w (Imm op' rd' rs1' imm) m n =
    absurd (omega (arith, reg_opcode op, imm_opcode op'))
only_reg op rd rs1 rs2 w (Shift op' rd' rs1' by) m n =
    absurd (omega (arith, reg_opcode op, shift_opcode w rd' rs1' by op' n))
only_reg op rd rs1 rs2 w j m n = absurd (omega (arith, reg_opcode op))

pub one_instruction : (w : ℕ) (i j : Instr) → Means w i → Means w j → i ≡ j
one_instruction w (Lui rd imm) = only_lui rd imm w
one_instruction w (Auipc rd imm) = only_auipc rd imm w
one_instruction w (Jal rd off) = only_jal rd off w
one_instruction w (Jalr rd rs1 imm) = only_jalr rd rs1 imm w
one_instruction w (Branch op rs1 rs2 off) = only_branch op rs1 rs2 off w
one_instruction w (Load op rd rs1 imm) = only_load op rd rs1 imm w
one_instruction w (Store op rs1 rs2 imm) = only_store op rs1 rs2 imm w
one_instruction w (Imm op rd rs1 imm) = only_imm op rd rs1 imm w
one_instruction w (Shift op rd rs1 by) = only_shift op rd rs1 by w
one_instruction w (Reg op rd rs1 rs2) = only_reg op rd rs1 rs2 w
one_instruction w (Fence rd rs1 imm) = only_fence rd rs1 imm w
one_instruction w Ecall = only_ecall w
one_instruction w Ebreak = only_ebreak w

pub in_range : (w : ℕ) (i : Instr) → Means w i → IsWellFormed i × (w < 2 ^ 32)
in_range w i m = (grind arith, grind arith)

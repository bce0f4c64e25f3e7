-- The instruction table: the rows of RV64I and of the extension M, as the RISC-V Unprivileged ISA
-- lists them ("RV32/64G Instruction Set Listings"). It relates words and instructions, and is read
-- in neither direction.
--
--   Means word instr      the row of instr has the word, and the instruction's fields are the row's
--   MeansNothing word     no row has the word
--   branch_funct3 op, load_funct3 op, store_funct3 op
--                         the funct3 of the operation's row
--   imm_row op            its opcode and funct3
--   shift_row op          its opcode, its funct3, the width of the shift, and the bits above the shift
--   reg_row op            its opcode, funct3 and funct7
--   IsWithin m z          z is from -m to m - 1
--   IsOffset m z          so is z, and it is even
--   IsWellFormed instr    each field is in the range that its layout gives it
use Rattle.std.specs.Prelude.{◌≡◌, ℕ, ◌%◌, ◌^◌, ◌<◌, ℤ, pos, neg_ℤ, ◌≤ℤ◌, ◌<ℤ◌, unsigned_abs}
use Rattle.rv_decode.specs.Layouts.{IsR, IsI, IsShift, IsS, IsB, IsU, IsJ}
use Rattle.rv_decode.specs.declared.rows.ImmRow.{ImmRow}
use Rattle.rv_decode.specs.declared.rows.ShiftRow.{ShiftRow}
use Rattle.rv_decode.specs.declared.rows.RegRow.{RegRow}
use Rattle.rv_instr.specs.declared.Instr.{Instr}
use Rattle.rv_instr.specs.declared.Instr.TheVariants.{Lui, Auipc, Jal, Jalr, Branch, Load, Store, Imm, Shift, Reg, Fence, Ecall, Ebreak}
use Rattle.rv_instr.specs.declared.BranchOp.{BranchOp}
use Rattle.rv_instr.specs.declared.BranchOp.TheVariants.{Beq, Bne, Blt, Bge, Bltu, Bgeu}
use Rattle.rv_instr.specs.declared.LoadOp.{LoadOp}
use Rattle.rv_instr.specs.declared.LoadOp.TheVariants.{Lb, Lh, Lw, Ld, Lbu, Lhu, Lwu}
use Rattle.rv_instr.specs.declared.StoreOp.{StoreOp}
use Rattle.rv_instr.specs.declared.StoreOp.TheVariants.{Sb, Sh, Sw, Sd}
use Rattle.rv_instr.specs.declared.ImmOp.{ImmOp}
use Rattle.rv_instr.specs.declared.ImmOp.TheVariants.{Addi, Slti, Sltiu, Xori, Ori, Andi, Addiw}
use Rattle.rv_instr.specs.declared.ShiftOp.{ShiftOp}
use Rattle.rv_instr.specs.declared.ShiftOp.TheVariants.{Slli, Srli, Srai, Slliw, Srliw, Sraiw}
use Rattle.rv_instr.specs.declared.RegOp.{RegOp}
use Rattle.rv_instr.specs.declared.RegOp.TheVariants.{Add, Sub, Sll, Slt, Sltu, Xor, Srl, Sra, Or, And, Mul, Mulh, Mulhsu, Mulhu, Div, Divu, Rem, Remu, Addw, Subw, Sllw, Srlw, Sraw, Mulw, Divw, Divuw, Remw, Remuw}

abbrev pub branch_funct3 : BranchOp → ℕ
branch_funct3 Beq = 0
branch_funct3 Bne = 1
branch_funct3 Blt = 4
branch_funct3 Bge = 5
branch_funct3 Bltu = 6
branch_funct3 Bgeu = 7

abbrev pub load_funct3 : LoadOp → ℕ
load_funct3 Lb = 0
load_funct3 Lh = 1
load_funct3 Lw = 2
load_funct3 Ld = 3
load_funct3 Lbu = 4
load_funct3 Lhu = 5
load_funct3 Lwu = 6

abbrev pub store_funct3 : StoreOp → ℕ
store_funct3 Sb = 0
store_funct3 Sh = 1
store_funct3 Sw = 2
store_funct3 Sd = 3

abbrev pub imm_row : ImmOp → ImmRow
imm_row Addi = record { opcode = 0x13; funct3 = 0 }
imm_row Slti = record { opcode = 0x13; funct3 = 2 }
imm_row Sltiu = record { opcode = 0x13; funct3 = 3 }
imm_row Xori = record { opcode = 0x13; funct3 = 4 }
imm_row Ori = record { opcode = 0x13; funct3 = 6 }
imm_row Andi = record { opcode = 0x13; funct3 = 7 }
imm_row Addiw = record { opcode = 0x1b; funct3 = 0 }

abbrev pub shift_row : ShiftOp → ShiftRow
shift_row Slli = record { opcode = 0x13; funct3 = 1; width = 6; above = 0x00 }
shift_row Srli = record { opcode = 0x13; funct3 = 5; width = 6; above = 0x00 }
shift_row Srai = record { opcode = 0x13; funct3 = 5; width = 6; above = 0x10 }
shift_row Slliw = record { opcode = 0x1b; funct3 = 1; width = 5; above = 0x00 }
shift_row Srliw = record { opcode = 0x1b; funct3 = 5; width = 5; above = 0x00 }
shift_row Sraiw = record { opcode = 0x1b; funct3 = 5; width = 5; above = 0x20 }

abbrev pub reg_row : RegOp → RegRow
reg_row Add = record { opcode = 0x33; funct3 = 0; funct7 = 0x00 }
reg_row Sll = record { opcode = 0x33; funct3 = 1; funct7 = 0x00 }
reg_row Slt = record { opcode = 0x33; funct3 = 2; funct7 = 0x00 }
reg_row Sltu = record { opcode = 0x33; funct3 = 3; funct7 = 0x00 }
reg_row Xor = record { opcode = 0x33; funct3 = 4; funct7 = 0x00 }
reg_row Srl = record { opcode = 0x33; funct3 = 5; funct7 = 0x00 }
reg_row Or = record { opcode = 0x33; funct3 = 6; funct7 = 0x00 }
reg_row And = record { opcode = 0x33; funct3 = 7; funct7 = 0x00 }
reg_row Sub = record { opcode = 0x33; funct3 = 0; funct7 = 0x20 }
reg_row Sra = record { opcode = 0x33; funct3 = 5; funct7 = 0x20 }
reg_row Mul = record { opcode = 0x33; funct3 = 0; funct7 = 0x01 }
reg_row Mulh = record { opcode = 0x33; funct3 = 1; funct7 = 0x01 }
reg_row Mulhsu = record { opcode = 0x33; funct3 = 2; funct7 = 0x01 }
reg_row Mulhu = record { opcode = 0x33; funct3 = 3; funct7 = 0x01 }
reg_row Div = record { opcode = 0x33; funct3 = 4; funct7 = 0x01 }
reg_row Divu = record { opcode = 0x33; funct3 = 5; funct7 = 0x01 }
reg_row Rem = record { opcode = 0x33; funct3 = 6; funct7 = 0x01 }
reg_row Remu = record { opcode = 0x33; funct3 = 7; funct7 = 0x01 }
reg_row Addw = record { opcode = 0x3b; funct3 = 0; funct7 = 0x00 }
reg_row Sllw = record { opcode = 0x3b; funct3 = 1; funct7 = 0x00 }
reg_row Srlw = record { opcode = 0x3b; funct3 = 5; funct7 = 0x00 }
reg_row Subw = record { opcode = 0x3b; funct3 = 0; funct7 = 0x20 }
reg_row Sraw = record { opcode = 0x3b; funct3 = 5; funct7 = 0x20 }
reg_row Mulw = record { opcode = 0x3b; funct3 = 0; funct7 = 0x01 }
reg_row Divw = record { opcode = 0x3b; funct3 = 4; funct7 = 0x01 }
reg_row Divuw = record { opcode = 0x3b; funct3 = 5; funct7 = 0x01 }
reg_row Remw = record { opcode = 0x3b; funct3 = 6; funct7 = 0x01 }
reg_row Remuw = record { opcode = 0x3b; funct3 = 7; funct7 = 0x01 }

abbrev pub Means : ℕ → Instr → Type 0
Means word (Lui rd imm) = IsU word imm rd 0x37
Means word (Auipc rd imm) = IsU word imm rd 0x17
Means word (Jal rd off) = IsJ word off rd 0x6f
Means word (Jalr rd rs1 imm) = IsI word imm rs1 0 rd 0x67
Means word (Branch op rs1 rs2 off) = IsB word off rs2 rs1 (branch_funct3 op) 0x63
Means word (Load op rd rs1 imm) = IsI word imm rs1 (load_funct3 op) rd 0x03
Means word (Store op rs1 rs2 imm) = IsS word imm rs2 rs1 (store_funct3 op) 0x23
Means word (Imm op rd rs1 imm) = let row = imm_row op in IsI word imm rs1 row.funct3 rd row.opcode
Means word (Shift op rd rs1 by) = let row = shift_row op in
    IsShift row.width word row.above by rs1 row.funct3 rd row.opcode
Means word (Reg op rd rs1 rs2) = let row = reg_row op in
    IsR word row.funct7 rs2 rs1 row.funct3 rd row.opcode
Means word (Fence rd rs1 imm) = IsI word imm rs1 0 rd 0x0f
Means word Ecall = word ≡ 0x00000073
Means word Ebreak = word ≡ 0x00100073

abbrev pub MeansNothing : ℕ → Type 0
MeansNothing word = (instr : Instr) → Means word instr → ⊥

abbrev pub IsWithin : ℕ → ℤ → Type 0
IsWithin m z = (neg_ℤ (pos m) ≤ℤ z) × (z <ℤ pos m)

abbrev pub IsOffset : ℕ → ℤ → Type 0
IsOffset m z = IsWithin m z × (unsigned_abs z % 2 ≡ 0)

abbrev pub IsWellFormed : Instr → Type 0
IsWellFormed (Lui rd imm) = (rd < 32) × (imm < 2 ^ 20)
IsWellFormed (Auipc rd imm) = (rd < 32) × (imm < 2 ^ 20)
IsWellFormed (Jal rd off) = (rd < 32) × IsOffset (2 ^ 20) off
IsWellFormed (Jalr rd rs1 imm) = (rd < 32) × (rs1 < 32) × IsWithin (2 ^ 11) imm
IsWellFormed (Branch op rs1 rs2 off) = (rs1 < 32) × (rs2 < 32) × IsOffset (2 ^ 12) off
IsWellFormed (Load op rd rs1 imm) = (rd < 32) × (rs1 < 32) × IsWithin (2 ^ 11) imm
IsWellFormed (Store op rs1 rs2 imm) = (rs1 < 32) × (rs2 < 32) × IsWithin (2 ^ 11) imm
IsWellFormed (Imm op rd rs1 imm) = (rd < 32) × (rs1 < 32) × IsWithin (2 ^ 11) imm
IsWellFormed (Shift op rd rs1 by) = (rd < 32) × (rs1 < 32) × (by < 2 ^ (shift_row op).width)
IsWellFormed (Reg op rd rs1 rs2) = (rd < 32) × (rs1 < 32) × (rs2 < 32)
IsWellFormed (Fence rd rs1 imm) = (rd < 32) × (rs1 < 32) × IsWithin (2 ^ 11) imm
IsWellFormed Ecall = Unit {0}
IsWellFormed Ebreak = Unit {0}

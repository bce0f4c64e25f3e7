-- The text of an instruction: its mnemonic, then one space and its operands with commas between them.
--
--   instr_text instr     the text
--   branch_mnemonic op, load_mnemonic op, store_mnemonic op, imm_mnemonic op, shift_mnemonic op,
--   reg_mnemonic op      the name of the operation's row in lower case
--   line mnemonic texts  the mnemonic and its operands
--   operands texts       the texts with commas between them
--   place imm r          the place in memory at register r plus imm, as `8(sp)`
--   number z             z in decimal, with `-` in front where it is negative
use Rattle.std.specs.Prelude.{ℕ, ℤ, List, [], ◌∷◌, ◌++◌, codes}
use Rattle.std.specs.Fmt.{signed_decimal}
use Rattle.number_text.specs.Numerals.{dec, hex}
use Rattle.rv_decode.specs.Registers.{name_of_register}
use Rattle.rv_instr.specs.declared.Instr.{Instr}
use Rattle.rv_instr.specs.declared.Instr.TheVariants.{Lui, Auipc, Jal, Jalr, Branch, Load, Store, Imm, Shift, Reg, Fence, Ecall, Ebreak}
use Rattle.rv_instr.specs.declared.BranchOp.{BranchOp}
use Rattle.rv_instr.specs.declared.BranchOp.TheVariants.{Beq, Bne, Blt, Bge, Bltu, Bgeu}
use Rattle.rv_instr.specs.declared.LoadOp.{LoadOp}
use Rattle.rv_instr.specs.declared.LoadOp.TheVariants.{Lb, Lh, Lw, Ld, Lbu, Lhu, Lwu}
use Rattle.rv_instr.specs.declared.StoreOp.{StoreOp}
use Rattle.rv_instr.specs.declared.StoreOp.TheVariants.{Sb, Sh, Sw, Sd}
use Rattle.rv_instr.specs.declared.ImmOp.{ImmOp}
use Rattle.rv_instr.specs.declared.ImmOp.TheVariants.{Addi, Slti, Sltiu, Xori, Ori, Andi, Addiw}
use Rattle.rv_instr.specs.declared.ShiftOp.{ShiftOp}
use Rattle.rv_instr.specs.declared.ShiftOp.TheVariants.{Slli, Srli, Srai, Slliw, Srliw, Sraiw}
use Rattle.rv_instr.specs.declared.RegOp.{RegOp}
use Rattle.rv_instr.specs.declared.RegOp.TheVariants.{Add, Sub, Sll, Slt, Sltu, Xor, Srl, Sra, Or, And, Mul, Mulh, Mulhsu, Mulhu, Div, Divu, Rem, Remu, Addw, Subw, Sllw, Srlw, Sraw, Mulw, Divw, Divuw, Remw, Remuw}

abbrev pub number : ℤ → List ℕ
number z = signed_decimal z

abbrev pub place : ℤ → ℕ → List ℕ
place imm r = number imm ++ (codes "(" ++ (name_of_register r ++ codes ")"))

abbrev pub operands : List (List ℕ) → List ℕ
operands [] = []
operands (text ∷ []) = text
operands (text ∷ next ∷ texts) = text ++ (codes "," ++ operands (next ∷ texts))

abbrev pub line : List ℕ → List (List ℕ) → List ℕ
line mnemonic texts = mnemonic ++ (codes " " ++ operands texts)

abbrev pub branch_mnemonic : BranchOp → List ℕ
branch_mnemonic Beq = codes "beq"
branch_mnemonic Bne = codes "bne"
branch_mnemonic Blt = codes "blt"
branch_mnemonic Bge = codes "bge"
branch_mnemonic Bltu = codes "bltu"
branch_mnemonic Bgeu = codes "bgeu"

abbrev pub load_mnemonic : LoadOp → List ℕ
load_mnemonic Lb = codes "lb"
load_mnemonic Lh = codes "lh"
load_mnemonic Lw = codes "lw"
load_mnemonic Ld = codes "ld"
load_mnemonic Lbu = codes "lbu"
load_mnemonic Lhu = codes "lhu"
load_mnemonic Lwu = codes "lwu"

abbrev pub store_mnemonic : StoreOp → List ℕ
store_mnemonic Sb = codes "sb"
store_mnemonic Sh = codes "sh"
store_mnemonic Sw = codes "sw"
store_mnemonic Sd = codes "sd"

abbrev pub imm_mnemonic : ImmOp → List ℕ
imm_mnemonic Addi = codes "addi"
imm_mnemonic Slti = codes "slti"
imm_mnemonic Sltiu = codes "sltiu"
imm_mnemonic Xori = codes "xori"
imm_mnemonic Ori = codes "ori"
imm_mnemonic Andi = codes "andi"
imm_mnemonic Addiw = codes "addiw"

abbrev pub shift_mnemonic : ShiftOp → List ℕ
shift_mnemonic Slli = codes "slli"
shift_mnemonic Srli = codes "srli"
shift_mnemonic Srai = codes "srai"
shift_mnemonic Slliw = codes "slliw"
shift_mnemonic Srliw = codes "srliw"
shift_mnemonic Sraiw = codes "sraiw"

abbrev pub reg_mnemonic : RegOp → List ℕ
reg_mnemonic Add = codes "add"
reg_mnemonic Sub = codes "sub"
reg_mnemonic Sll = codes "sll"
reg_mnemonic Slt = codes "slt"
reg_mnemonic Sltu = codes "sltu"
reg_mnemonic Xor = codes "xor"
reg_mnemonic Srl = codes "srl"
reg_mnemonic Sra = codes "sra"
reg_mnemonic Or = codes "or"
reg_mnemonic And = codes "and"
reg_mnemonic Mul = codes "mul"
reg_mnemonic Mulh = codes "mulh"
reg_mnemonic Mulhsu = codes "mulhsu"
reg_mnemonic Mulhu = codes "mulhu"
reg_mnemonic Div = codes "div"
reg_mnemonic Divu = codes "divu"
reg_mnemonic Rem = codes "rem"
reg_mnemonic Remu = codes "remu"
reg_mnemonic Addw = codes "addw"
reg_mnemonic Subw = codes "subw"
reg_mnemonic Sllw = codes "sllw"
reg_mnemonic Srlw = codes "srlw"
reg_mnemonic Sraw = codes "sraw"
reg_mnemonic Mulw = codes "mulw"
reg_mnemonic Divw = codes "divw"
reg_mnemonic Divuw = codes "divuw"
reg_mnemonic Remw = codes "remw"
reg_mnemonic Remuw = codes "remuw"

abbrev pub instr_text : Instr → List ℕ
instr_text (Lui rd imm) = line (codes "lui") (name_of_register rd ∷ hex imm ∷ [])
instr_text (Auipc rd imm) = line (codes "auipc") (name_of_register rd ∷ hex imm ∷ [])
instr_text (Jal rd off) = line (codes "jal") (name_of_register rd ∷ number off ∷ [])
instr_text (Jalr rd rs1 imm) = line (codes "jalr") (name_of_register rd ∷ place imm rs1 ∷ [])
instr_text (Branch op rs1 rs2 off) =
    line (branch_mnemonic op) (name_of_register rs1 ∷ name_of_register rs2 ∷ number off ∷ [])
instr_text (Load op rd rs1 imm) =
    line (load_mnemonic op) (name_of_register rd ∷ place imm rs1 ∷ [])
instr_text (Store op rs1 rs2 imm) =
    line (store_mnemonic op) (name_of_register rs2 ∷ place imm rs1 ∷ [])
instr_text (Imm op rd rs1 imm) =
    line (imm_mnemonic op) (name_of_register rd ∷ name_of_register rs1 ∷ number imm ∷ [])
instr_text (Shift op rd rs1 by) =
    line (shift_mnemonic op) (name_of_register rd ∷ name_of_register rs1 ∷ dec by ∷ [])
instr_text (Reg op rd rs1 rs2) =
    line (reg_mnemonic op) (name_of_register rd ∷ name_of_register rs1 ∷ name_of_register rs2 ∷ [])
instr_text (Fence rd rs1 imm) = codes "fence"
instr_text Ecall = codes "ecall"
instr_text Ebreak = codes "ebreak"

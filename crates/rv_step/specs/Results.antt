-- What instructions compute from words: RISC-V Unprivileged ISA, "Integer Computational Instructions" of
-- RV32I and RV64I, and "M" Extension for Integer Multiplication and Division. a and b are the words of
-- rs1 and rs2. Shifts by a register take the low 6 bits of b, in the W forms the low 5. A division by
-- zero gives all bits ones, and the dividend as remainder. Signed division, int_div and int_rem, rounds
-- toward zero. Where it overflows, at the least number by -1, the wrapped quotient is the dividend, and
-- the remainder is 0.
--
--   all_ones                      the word whose bits are all ones
--   upper imm                     the immediate of LUI and AUIPC: the field shifted left by 12
--   reg_result op a b             what an operation of two registers gives
--   imm_result op a imm           what an operation with an immediate gives
--   shift_result op a by          what a shift by a constant gives
--   is_taken op a b               the branch is taken
use Rattle.std.specs.Prelude.{ℕ, ◌+◌, ◌-◌, ◌*◌, ◌/◌, ◌%◌, ◌^◌, ℤ, pos, ◌+ℤ◌, ◌-ℤ◌, ◌*ℤ◌, int_div, int_rem, int_lt, bit_and, bit_or, bit_xor, nat_lt, ◌==◌, Bool, not, if◌then◌else◌}
use Rattle.rv_instr.specs.declared.BranchOp.{BranchOp}
use Rattle.rv_instr.specs.declared.BranchOp.TheVariants.{Beq, Bne, Blt, Bge, Bltu, Bgeu}
use Rattle.rv_instr.specs.declared.ImmOp.{ImmOp}
use Rattle.rv_instr.specs.declared.ImmOp.TheVariants.{Addi, Slti, Sltiu, Xori, Ori, Andi, Addiw}
use Rattle.rv_instr.specs.declared.ShiftOp.{ShiftOp}
use Rattle.rv_instr.specs.declared.ShiftOp.TheVariants.{Slli, Srli, Srai, Slliw, Srliw, Sraiw}
use Rattle.rv_instr.specs.declared.RegOp.{RegOp}
use Rattle.rv_instr.specs.declared.RegOp.TheVariants.{Add, Sub, Sll, Slt, Sltu, Xor, Srl, Sra, Or, And, Mul, Mulh, Mulhsu, Mulhu, Div, Divu, Rem, Remu, Addw, Subw, Sllw, Srlw, Sraw, Mulw, Divw, Divuw, Remw, Remuw}
use Rattle.rv_step.specs.Words.{word, signed, low, signed_low, sign_extended, halved, test}

abbrev pub all_ones : ℕ
all_ones = 2 ^ 64 - 1

abbrev pub upper : ℕ → ℕ
upper imm = sign_extended (pos (imm * 2 ^ 12))

abbrev pub reg_result : RegOp → ℕ → ℕ → ℕ
reg_result Add a b = word (pos (a + b))
reg_result Sub a b = word (pos a -ℤ pos b)
reg_result Sll a b = word (pos (a * 2 ^ (b % 64)))
reg_result Slt a b = test (int_lt (signed a) (signed b))
reg_result Sltu a b = test (nat_lt a b)
reg_result Xor a b = bit_xor a b
reg_result Srl a b = a / 2 ^ (b % 64)
reg_result Sra a b = word (halved (signed a) (b % 64))
reg_result Or a b = bit_or a b
reg_result And a b = bit_and a b
reg_result Mul a b = word (pos (a * b))
reg_result Mulh a b = word (halved (signed a *ℤ signed b) 64)
reg_result Mulhsu a b = word (halved (signed a *ℤ pos b) 64)
reg_result Mulhu a b = a * b / 2 ^ 64
reg_result Div a b = if b == 0 then all_ones else word (int_div (signed a) (signed b))
reg_result Divu a b = if b == 0 then all_ones else a / b
reg_result Rem a b = if b == 0 then a else word (int_rem (signed a) (signed b))
reg_result Remu a b = if b == 0 then a else a % b
reg_result Addw a b = sign_extended (pos (a + b))
reg_result Subw a b = sign_extended (pos a -ℤ pos b)
reg_result Sllw a b = sign_extended (pos (a * 2 ^ (b % 32)))
reg_result Srlw a b = sign_extended (pos (low a / 2 ^ (b % 32)))
reg_result Sraw a b = sign_extended (halved (signed_low a) (b % 32))
reg_result Mulw a b = sign_extended (pos (a * b))
reg_result Divw a b = if low b == 0 then all_ones else sign_extended (int_div (signed_low a) (signed_low b))
reg_result Divuw a b = if low b == 0 then all_ones else sign_extended (pos (low a / low b))
reg_result Remw a b =
    if low b == 0 then sign_extended (pos a) else sign_extended (int_rem (signed_low a) (signed_low b))
reg_result Remuw a b = if low b == 0 then sign_extended (pos a) else sign_extended (pos (low a % low b))

abbrev pub imm_result : ImmOp → ℕ → ℤ → ℕ
imm_result Addi a imm = word (pos a +ℤ imm)
imm_result Slti a imm = test (int_lt (signed a) imm)
imm_result Sltiu a imm = test (nat_lt a (word imm))
imm_result Xori a imm = bit_xor a (word imm)
imm_result Ori a imm = bit_or a (word imm)
imm_result Andi a imm = bit_and a (word imm)
imm_result Addiw a imm = sign_extended (pos a +ℤ imm)

abbrev pub shift_result : ShiftOp → ℕ → ℕ → ℕ
shift_result Slli a by = word (pos (a * 2 ^ by))
shift_result Srli a by = a / 2 ^ by
shift_result Srai a by = word (halved (signed a) by)
shift_result Slliw a by = sign_extended (pos (a * 2 ^ by))
shift_result Srliw a by = sign_extended (pos (low a / 2 ^ by))
shift_result Sraiw a by = sign_extended (halved (signed_low a) by)

abbrev pub is_taken : BranchOp → ℕ → ℕ → Bool
is_taken Beq a b = a == b
is_taken Bne a b = not (a == b)
is_taken Blt a b = int_lt (signed a) (signed b)
is_taken Bge a b = not (int_lt (signed a) (signed b))
is_taken Bltu a b = nat_lt a b
is_taken Bgeu a b = not (nat_lt a b)

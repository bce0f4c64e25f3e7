-- What instructions compute is a word.
use Rattle.std.proofs.Common.{◌≡◌, ℕ, zero, suc, ◌+◌, ◌-◌, ◌*◌, ◌/◌, ◌%◌, ◌^◌, ◌<◌, ◌≤◌, ◌==◌, ℤ, pos, negsuc, Bool, true, false, ap, ◌∙◌, arith}
use Rattle.std.specs.Prelude.{if◌then◌else◌}
use Rattle.std.proofs.Math.Nat.{div-le_self, mod-le, mul-le-mul}
use Rattle.std.proofs.lemmas.Nat.{and_le_l, or_lt, xor_lt, shr_le, pow-add}
use Rattle.elf_image.specs.Fetches.{next_byte, read}
use Rattle.rv_instr.specs.declared.ImmOp.{ImmOp}
use Rattle.rv_instr.specs.declared.ImmOp.TheVariants.{Addi, Slti, Sltiu, Xori, Ori, Andi, Addiw}
use Rattle.rv_instr.specs.declared.ShiftOp.{ShiftOp}
use Rattle.rv_instr.specs.declared.ShiftOp.TheVariants.{Slli, Srli, Srai, Slliw, Srliw, Sraiw}
use Rattle.rv_instr.specs.declared.RegOp.{RegOp}
use Rattle.rv_instr.specs.declared.RegOp.TheVariants.{Add, Sub, Sll, Slt, Sltu, Xor, Srl, Sra, Or, And, Mul, Mulh, Mulhsu, Mulhu, Div, Divu, Rem, Remu, Addw, Subw, Sllw, Srlw, Sraw, Mulw, Divw, Divuw, Remw, Remuw}
use Rattle.rv_instr.specs.declared.LoadOp.{LoadOp}
use Rattle.rv_instr.specs.declared.LoadOp.TheVariants.{Lb, Lh, Lw, Ld, Lbu, Lhu, Lwu}
use Rattle.rv_step.specs.Words.{word, low, test}
use Rattle.rv_step.specs.Results.{all_ones, reg_result, imm_result, shift_result}
use Rattle.rv_step.specs.Steps.{loaded}

pub wrapped : (z : ℤ) → word z < 2 ^ 64
wrapped (pos n) = omega arith
wrapped (negsuc n) = omega arith

tested : (b : Bool) → test b < 2 ^ 64
tested true = omega arith
tested false = omega arith

pub chosen : (c : Bool) (x y : ℕ) → x < 2 ^ 64 → y < 2 ^ 64 → (if c then x else y) < 2 ^ 64
chosen true x y p q = p
chosen false x y p q = q

ones : all_ones < 2 ^ 64
ones = omega arith

high : (a b : ℕ) → a < 2 ^ 64 → b < 2 ^ 64 → a * b / 2 ^ 64 < 2 ^ 64
high a b p q =
    let below_a : a ≤ 2 ^ 64 - 1 = omega arith in
    let below_b : b ≤ 2 ^ 64 - 1 = omega arith in
    let product : a * b ≤ (2 ^ 64 - 1) * (2 ^ 64 - 1) = mul-le-mul below_a below_b in
    omega arith

pub reg_is_word : (op : RegOp) (a b : ℕ) → a < 2 ^ 64 → b < 2 ^ 64 → reg_result op a b < 2 ^ 64
reg_is_word Add a b p q = search wrapped
reg_is_word Sub a b p q = search wrapped
reg_is_word Sll a b p q = search wrapped
reg_is_word Slt a b p q = tested _
reg_is_word Sltu a b p q = tested _
reg_is_word Xor a b p q = xor_lt 64 a b p q
reg_is_word Srl a b p q = omega (arith, shr_le a (b % 64))
reg_is_word Sra a b p q = search wrapped
reg_is_word Or a b p q = or_lt 64 a b p q
reg_is_word And a b p q = omega (arith, and_le_l a b)
reg_is_word Mul a b p q = search wrapped
reg_is_word Mulh a b p q = search wrapped
reg_is_word Mulhsu a b p q = search wrapped
reg_is_word Mulhu a b p q = high a b p q
reg_is_word Div a b p q = chosen (b == 0) _ _ ones (search wrapped)
reg_is_word Divu a b p q = chosen (b == 0) _ _ ones (omega (arith, div-le_self a b))
reg_is_word Rem a b p q = chosen (b == 0) _ _ p (search wrapped)
reg_is_word Remu a b p q = chosen (b == 0) _ _ p (omega (arith, mod-le a b))
reg_is_word Addw a b p q = search wrapped
reg_is_word Subw a b p q = search wrapped
reg_is_word Sllw a b p q = search wrapped
reg_is_word Srlw a b p q = search wrapped
reg_is_word Sraw a b p q = search wrapped
reg_is_word Mulw a b p q = search wrapped
reg_is_word Divw a b p q = chosen (low b == 0) _ _ ones (search wrapped)
reg_is_word Divuw a b p q = chosen (low b == 0) _ _ ones (search wrapped)
reg_is_word Remw a b p q = chosen (low b == 0) _ _ (search wrapped) (search wrapped)
reg_is_word Remuw a b p q = chosen (low b == 0) _ _ (search wrapped) (search wrapped)

pub imm_is_word : (op : ImmOp) (a : ℕ) (imm : ℤ) → a < 2 ^ 64 → imm_result op a imm < 2 ^ 64
imm_is_word Addi a imm p = search wrapped
imm_is_word Slti a imm p = tested _
imm_is_word Sltiu a imm p = tested _
imm_is_word Xori a imm p = xor_lt 64 a (word imm) p (wrapped imm)
imm_is_word Ori a imm p = or_lt 64 a (word imm) p (wrapped imm)
imm_is_word Andi a imm p = omega (arith, and_le_l a (word imm))
imm_is_word Addiw a imm p = search wrapped

pub shift_is_word : (op : ShiftOp) (a by : ℕ) → a < 2 ^ 64 → shift_result op a by < 2 ^ 64
shift_is_word Slli a by p = search wrapped
shift_is_word Srli a by p = omega (arith, shr_le a by)
shift_is_word Srai a by p = search wrapped
shift_is_word Slliw a by p = search wrapped
shift_is_word Srliw a by p = search wrapped
shift_is_word Sraiw a by p = search wrapped

-- the number in k bytes, where each is a byte
abbrev ReadsBelow : (ℕ → ℕ) → ℕ → Type 0
ReadsBelow memory k = (a : ℕ) → a < 2 ^ 64 → read k memory a < 2 ^ (8 * k)

reads_below : (memory : ℕ → ℕ) → ((a : ℕ) → a < 2 ^ 64 → memory a < 2 ^ 8) → (k : ℕ) → ReadsBelow memory k
unfolding read
reads_below memory bytes zero a small = omega arith
reads_below memory bytes (suc k) a small =
    let first = bytes a small in
    let later = reads_below memory bytes k (next_byte a) (omega arith) in
    let more : 8 * suc k ≡ 8 + 8 * k = omega arith in
    let power : 2 ^ (8 * suc k) ≡ 2 ^ 8 * 2 ^ (8 * k) = ap (λ (j : ℕ). 2 ^ j) more ∙ pow-add 2 8 (8 * k) in
    omega arith

-- what a load gives
pub loaded_is_word : (op : LoadOp) (memory : ℕ → ℕ) (a : ℕ) → ((b : ℕ) → b < 2 ^ 64 → memory b < 2 ^ 8) → a < 2 ^ 64
    → loaded op memory a < 2 ^ 64
loaded_is_word Lb memory a bytes small = search wrapped
loaded_is_word Lh memory a bytes small = search wrapped
loaded_is_word Lw memory a bytes small = search wrapped
loaded_is_word Ld memory a bytes small = reads_below memory bytes 8 a small
loaded_is_word Lbu memory a bytes small = let b = reads_below memory bytes 1 a small in omega arith
loaded_is_word Lhu memory a bytes small = let b = reads_below memory bytes 2 a small in omega arith
loaded_is_word Lwu memory a bytes small = let b = reads_below memory bytes 4 a small in omega arith

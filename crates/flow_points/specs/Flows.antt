-- The flow of an instruction: RISC-V Unprivileged ISA, "Control Transfer Instructions". Addresses wrap at
-- 2^64.
--
--   Fetches                       what is read of code: the unit, whose multiples are the addresses of
--                                 instructions; `at a`, the word and the length that are fetched at the
--                                 address a; and `word a`, the word of the four bytes from a on, whatever the
--                                 unit is. Each is none where its bytes don't lie in one executable segment
--   fetches_of image              the same of an image
--   plus a z                      the address z bytes behind a
--   next a length                 the address of the instruction behind one of this length at a
--   prior a                       the address four bytes before a
--   upper_offset upper            what an AUIPC adds to its address, by its field of 20 bits
--   pair_target a upper imm       the target of a pair whose second half stands at a: the address of its
--                                 AUIPC plus both immediates, with bit 0 cleared
--   aligned unit a target flow    this flow to the target, which is to be a multiple of the unit
--   linked unit a n rd target     a jump where rd is zero, a call where rd is ra, which returns to n
--   indirect a rd rs1 imm         a JALR that is no second half of a pair: a return, or else bad
--   flow_of unit a n upper instr  the flow of an instruction at a, with n behind it, or what is bad in it;
--                                 upper is the field of the AUIPC whose pair it ends, if it ends one
--   base_of instr                 the register whose address a JALR jumps to
--   HasInstr fetches a at instr   `at`, with its length, is fetched at a and stands for this instruction
--   IsFirstHalf fetches a r upper the four bytes before a stand for an AUIPC of r, which isn't zero
--   HasUpper fetches a r upper    so they do, with the field upper; where there is none, they don't
--   IsSecondHalf fetches a        at a stands a JALR, and before it an AUIPC of the JALR's base
--   Judged fetches a outcome      the outcome at a: the flow of its instruction, or what is bad there
--   HasFlow fetches a flow        the instruction at a has this flow
--   IsCode fetches c              the word, its length, the instruction and the flow of c are those at its address
use Rattle.std.specs.Prelude.{◌≡◌, ◌≢◌, ℕ, ◌+◌, ◌-◌, ◌*◌, ◌%◌, ◌^◌, ◌==◌, ℤ, pos, ◌&&◌, ◌||◌, Option, None, Some, MatchOption, Result, Ok, Err, if◌then◌else◌}
use Rattle.std.specs.Int.{cast_unsigned, cast_signed, w32, w64}
use Rattle.std.specs.Ordering.{int_eq}
use Rattle.elf_image.specs.Images.{code_at, code_word}
use Rattle.elf_image.specs.declared.image.Image.{Image}
use Rattle.elf_image.specs.declared.fetched.Fetched.{Fetched}
use Rattle.rv_decode.specs.Instructions.{Means}
use Rattle.rvc_expand.specs.Lengths.{MeansWithLength}
use Rattle.rv_instr.specs.declared.Instr.{Instr}
use Rattle.rv_instr.specs.declared.Instr.TheVariants.{Auipc, Jal, Jalr, Branch as BranchInstr, Ebreak}
use Rattle.flow_points.specs.declared.code_points.CodePoint.{CodePoint}
use Rattle.flow_points.specs.declared.code_points.Flow.{Flow}
use Rattle.flow_points.specs.declared.code_points.Flow.TheVariants.{Next, Jump, Branch, Call, Return, Halt}
use Rattle.refusals.specs.declared.flow.FlowRefusal.{FlowRefusal}
use Rattle.refusals.specs.declared.flow.FlowRefusal.TheVariants.{OutsideCode, NoInstruction, OddLink, IndirectJump, MisalignedTarget}

pub record Fetches : Type 0 where
  pub unit : ℕ
  pub at : ℕ → Option Fetched
  pub word : ℕ → Option ℕ

abbrev pub fetches_of : Image → Fetches
fetches_of image = record { unit = image.unit; at = code_at image; word = code_word image }

abbrev pub plus : ℕ → ℤ → ℕ
plus a z = (a + cast_unsigned w64 z) % 2 ^ 64

abbrev pub next : ℕ → ℕ → ℕ
next a length = (a + length) % 2 ^ 64

abbrev pub prior : ℕ → ℕ
prior a = (a + (2 ^ 64 - 4)) % 2 ^ 64

abbrev pub upper_offset : ℕ → ℤ
upper_offset upper = cast_signed w32 (upper * 2 ^ 12 % 2 ^ 32)

abbrev pub pair_target : ℕ → ℕ → ℤ → ℕ
pair_target a upper imm =
    let sum = plus (plus (prior a) (upper_offset upper)) imm in
    sum - sum % 2

abbrev pub aligned : ℕ → ℕ → ℕ → Flow → Result Flow FlowRefusal
aligned unit a target flow = if target % unit == 0 then Ok flow else Err (MisalignedTarget a target)

abbrev pub linked : ℕ → ℕ → ℕ → ℕ → ℕ → Result Flow FlowRefusal
linked unit a n rd target =
    if rd == 0
    then aligned unit a target (Jump target)
    else (if rd == 1 then aligned unit a target (Call target n) else Err (OddLink a rd))

abbrev pub indirect : ℕ → ℕ → ℕ → ℤ → Result Flow FlowRefusal
indirect a rd rs1 imm =
    if rd == 0 && (rs1 == 1 && int_eq imm (pos 0))
    then Ok Return
    else (if rd == 0 || rd == 1 then Err (IndirectJump a rs1) else Err (OddLink a rd))

abbrev pub flow_of : ℕ → ℕ → ℕ → Option ℕ → Instr → Result Flow FlowRefusal
flow_of unit a n upper (Jal rd off) = linked unit a n rd (plus a off)
flow_of unit a n upper (BranchInstr op rs1 rs2 off) = aligned unit a (plus a off) (Branch n (plus a off))
flow_of unit a n (Some upper) (Jalr rd rs1 imm) = linked unit a n rd (pair_target a upper imm)
flow_of unit a n None (Jalr rd rs1 imm) = indirect a rd rs1 imm
flow_of unit a n upper Ebreak = Ok Halt
flow_of unit a n upper _ = Ok (Next n)

abbrev pub base_of : Instr → ℕ
base_of (Jalr rd rs1 imm) = rs1
base_of _ = 0

pub record HasInstr (fetches : Fetches) (a : ℕ) (at : Fetched) (instr : Instr) : Type 0 where
  pub fetched : fetches.at a ≡ Some at
  pub means : MeansWithLength at.word at.length instr

pub record IsFirstHalf (fetches : Fetches) (a r upper : ℕ) : Type 0 where
  pub set : r ≢ 0
  pub word : ℕ
  pub there : fetches.word (prior a) ≡ Some word
  pub means : Means word (Auipc r upper)

abbrev pub HasUpper : Fetches → ℕ → ℕ → Option ℕ → Type 0
HasUpper fetches a r upper =
    MatchOption upper ((n : ℕ) → IsFirstHalf fetches a r n → ⊥) (λ n. IsFirstHalf fetches a r n)

pub record IsSecondHalf (fetches : Fetches) (a : ℕ) : Type 0 where
  pub at : Fetched
  pub rd : ℕ
  pub base : ℕ
  pub imm : ℤ
  pub upper : ℕ
  pub jalr : HasInstr fetches a at (Jalr rd base imm)
  pub first : IsFirstHalf fetches a base upper

pub data Judged (fetches : Fetches) (a : ℕ) (outcome : Result Flow FlowRefusal) : Type 0 where
  outside : fetches.at a ≡ None → outcome ≡ Err (OutsideCode a) → Judged fetches a outcome
  unknown : (at : Fetched) → fetches.at a ≡ Some at → ((instr : Instr) → MeansWithLength at.word at.length instr → ⊥)
      → outcome ≡ Err (NoInstruction a at.word) → Judged fetches a outcome
  known : (at : Fetched) (instr : Instr) (upper : Option ℕ) → HasInstr fetches a at instr
      → HasUpper fetches a (base_of instr) upper
      → outcome ≡ flow_of fetches.unit a (next a at.length) upper instr → Judged fetches a outcome

abbrev pub HasFlow : Fetches → ℕ → Flow → Type 0
HasFlow fetches a flow = Judged fetches a (Ok flow)

pub record IsCode (fetches : Fetches) (c : CodePoint) : Type 0 where
  pub instr : HasInstr fetches c.point.address (record { word = c.word; length = c.length }) c.instr
  pub flow : HasFlow fetches c.point.address c.flow

-- What an instruction does to the tracked names, as assignments made one after the other.
--
--   result_of names c access       the register that the instruction of c writes, and the value; access is the offset of its
--                                  load, where that is known
--   register_effect names result   the assignment to that register, if it is tracked
--   slot_effect names p store      the assignments of a store to slots of p
--   effect_of names c offset       the assignments of c's instruction, where offset r is the offset that register r has
--                                  there, if it has one
--   load_in w op, imm_in w op, shift_in w op, reg_in w op
--                                  the operation on whole words that gives the value of this one: itself where words are told
--                                  of; where their low 32 bits are, that without W, which has the same low 32 bits, and for
--                                  LW and LWU at a slot, which has four bytes, LD
--   instr_in w instr               the instruction of this operation
--   slot_effect_by w names p store the assignments of a store to slots, as wide as w has them
--   effect_at_by w names c access, effect_by w names c offset
--                                  the assignments of c's instruction to words, or to their low 32 bits
--   AreOffsetsAt points c offset   these are the offsets: those at the end of every walk of the procedure to c
--   IsEffect points names c assigns   the assignments at the point c
use Rattle.std.specs.Prelude.{◌≡◌, ℕ, ◌+◌, ◌<◌, List, [], ◌∷◌, ◌++◌, Option, Some, None}
use Rattle.std.specs.Option.{option_map_or}
use Rattle.word_rows.specs.Words.{word}
use Rattle.affine_prog.specs.declared.Assign.{Assign}
use Rattle.flow_points.specs.declared.code_points.CodePoint.{CodePoint}
use Rattle.frame_offsets.specs.Frames.{IsOffset}
use Rattle.report_text.specs.declared.names.Name.{Name}
use Rattle.rv_instr.specs.declared.Instr.{Instr}
use Rattle.rv_instr.specs.declared.Instr.TheVariants.{Lui, Auipc, Jal, Jalr, Branch, Load, Store, Imm, Shift, Reg, Fence, Ecall, Ebreak}
use Rattle.rv_instr.specs.declared.LoadOp.{LoadOp}
use Rattle.rv_instr.specs.declared.LoadOp.TheVariants.{Ld, Lw, Lwu}
use Rattle.rv_instr.specs.declared.ImmOp.{ImmOp}
use Rattle.rv_instr.specs.declared.ImmOp.TheVariants.{Addi, Addiw}
use Rattle.rv_instr.specs.declared.ShiftOp.{ShiftOp}
use Rattle.rv_instr.specs.declared.ShiftOp.TheVariants.{Slli, Slliw}
use Rattle.rv_instr.specs.declared.RegOp.{RegOp}
use Rattle.rv_instr.specs.declared.RegOp.TheVariants.{Add, Sub, Mul, Addw, Subw, Mulw}
use Rattle.affine_lift.specs.declared.value.Value.{Value}
use Rattle.affine_lift.specs.declared.value.Value.TheVariants.{Unknown}
use Rattle.affine_lift.specs.declared.store.FrameStore.{FrameStore}
use Rattle.affine_lift.specs.declared.width.Width.{Width}
use Rattle.affine_lift.specs.declared.width.Width.TheVariants.{Wide, Narrow}
use Rattle.affine_lift.specs.Values.{upper, constant, imm_value, shift_value, reg_value, link_value, place_of, assigned}
use Rattle.affine_lift.specs.FrameSlots.{access_of, loaded, store_of, stores_by}

abbrev pub result_in : List Name → CodePoint → Option ℕ → Instr → Option (ℕ × Value)
result_in names c access (Lui rd imm) = Some (rd, constant (upper imm))
result_in names c access (Auipc rd imm) = Some (rd, constant (word (c.point.address + upper imm)))
result_in names c access (Jal rd off) = Some (rd, link_value c.flow)
result_in names c access (Jalr rd rs1 imm) = Some (rd, link_value c.flow)
result_in names c access (Branch op rs1 rs2 off) = None
result_in names c access (Load op rd rs1 imm) = Some (rd, loaded names c.point.proc_entry op access)
result_in names c access (Store op rs1 rs2 imm) = None
result_in names c access (Imm op rd rs1 imm) = Some (rd, imm_value op rs1 imm)
result_in names c access (Shift op rd rs1 by) = Some (rd, shift_value op rs1 by)
result_in names c access (Reg op rd rs1 rs2) = Some (rd, reg_value op rs1 rs2)
result_in names c access (Fence rd rs1 imm) = None
result_in names c access Ecall = Some (10, Unknown)
result_in names c access Ebreak = None

abbrev pub result_of : List Name → CodePoint → Option ℕ → Option (ℕ × Value)
result_of names c access = result_in names c access c.instr

abbrev pub register_effect : List Name → Option (ℕ × Value) → List Assign
register_effect names None = []
register_effect names (Some (r, value)) = option_map_or (λ i. assigned names i value ∷ []) (place_of names r) []

abbrev pub load_in : Width → LoadOp → LoadOp
load_in Wide op = op
load_in Narrow Lw = Ld
load_in Narrow Lwu = Ld
load_in Narrow op = op

abbrev pub imm_in : Width → ImmOp → ImmOp
imm_in Wide op = op
imm_in Narrow Addiw = Addi
imm_in Narrow op = op

abbrev pub shift_in : Width → ShiftOp → ShiftOp
shift_in Wide op = op
shift_in Narrow Slliw = Slli
shift_in Narrow op = op

abbrev pub reg_in : Width → RegOp → RegOp
reg_in Wide op = op
reg_in Narrow Addw = Add
reg_in Narrow Subw = Sub
reg_in Narrow Mulw = Mul
reg_in Narrow op = op

abbrev pub instr_in : Width → Instr → Instr
instr_in Wide instr = instr
instr_in Narrow (Load op rd rs1 imm) = Load (load_in Narrow op) rd rs1 imm
instr_in Narrow (Imm op rd rs1 imm) = Imm (imm_in Narrow op) rd rs1 imm
instr_in Narrow (Shift op rd rs1 by) = Shift (shift_in Narrow op) rd rs1 by
instr_in Narrow (Reg op rd rs1 rs2) = Reg (reg_in Narrow op) rd rs1 rs2
instr_in Narrow instr = instr

abbrev pub slot_effect_by : Width → List Name → ℕ → Option FrameStore → List Assign
slot_effect_by w names p None = []
slot_effect_by w names p (Some s) = stores_by w names p s

abbrev pub slot_effect : List Name → ℕ → Option FrameStore → List Assign
slot_effect names p store = slot_effect_by Wide names p store

abbrev pub effect_at_by : Width → List Name → CodePoint → Option ℕ → List Assign
effect_at_by w names c access =
    register_effect names (result_in names c access (instr_in w c.instr))
    ++ slot_effect_by w names c.point.proc_entry (store_of c.instr access)

abbrev pub effect_at : List Name → CodePoint → Option ℕ → List Assign
effect_at names c access = effect_at_by Wide names c access

abbrev pub effect_by : Width → List Name → CodePoint → (ℕ → Option ℕ) → List Assign
effect_by w names c offset = effect_at_by w names c (access_of c.instr offset)

abbrev pub effect_of : List Name → CodePoint → (ℕ → Option ℕ) → List Assign
effect_of names c offset = effect_by Wide names c offset

abbrev pub AreOffsetsAt : List CodePoint → CodePoint → (ℕ → Option ℕ) → Type 0
AreOffsetsAt points c offset = (r : ℕ) → r < 32 → IsOffset points c r (offset r)

pub record IsEffect (points : List CodePoint) (names : List Name) (c : CodePoint) (assigns : List Assign) : Type 0 where
  pub offset : ℕ → Option ℕ
  pub offsets_are : AreOffsetsAt points c offset
  pub assigns_are : assigns ≡ effect_of names c offset

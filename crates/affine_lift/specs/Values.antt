-- What an instruction gives to the register that it writes, by what it reads: registers, and slots of the frame. The name
-- that stands at place i of the track list stands at position i of a state; position 16 is the constant.
--
--   Linear f g c                   the sum of two multiples of registers and c
--   Held k                         the word of the tracked name at position k
--   Unknown                        any word
--   term factor r, no_term         a factor times register r; 0 times register zero
--   as_word z, extended n          a signed number as a word; the low 32 bits, sign-extended
--   upper imm                      the value of the immediate of LUI and AUIPC
--   multiple factor r, constant c  the values of a factor times a register, and of a constant
--   beside_zero a b                where one of the two is register zero, the other
--   imm_value, shift_value, reg_value
--                                  the value of an operation with an immediate, of a shift, of an operation of two registers
--   link_value flow                the value of a link: the address behind the call, as the flow has it
--   is_register r name             the name is register r
--   place_of names r               the position of register r
--   coefficient f g r              the factor of register r in the sum of two terms
--   factor_of f g name             the factor of the name there; 0 for a slot
--   is_nameable names f g t        the term's register is zero, which reads 0, or tracked, or has the factor 0
--   row_of names f g c             the row of a sum over tracked registers
--   IsHeldIn names value           where it is the word at a position, a name stands there
--   assigned names i value         position i gets the value, or any word where that isn't a sum of tracked names
use Rattle.std.specs.Prelude.{ℕ, zero, ◌+◌, ◌-◌, ◌*◌, ◌%◌, ◌^◌, ◌<◌, length, ℤ, negsuc, Bool, false, ◌||◌, ◌&&◌, List, Option, Some, None, is_some, position, slice_get, if◌then◌else◌, ◌==◌}
use Rattle.std.specs.Option.{option_map_or}
use Rattle.std.specs.Int.{w32, w64, cast_signed, cast_unsigned}
use Rattle.word_rows.specs.Words.{word}
use Rattle.word_rows.specs.Rows.{unit}
use Rattle.map_modules.specs.Matrices.{vector}
use Rattle.affine_prog.specs.declared.Assign.{Assign}
use Rattle.affine_prog.specs.declared.Assign.TheVariants.{Affine, Any}
use Rattle.flow_points.specs.declared.code_points.Flow.{Flow}
use Rattle.flow_points.specs.declared.code_points.Flow.TheVariants.{Call}
use Rattle.report_text.specs.declared.names.Name.{Name}
use Rattle.report_text.specs.declared.names.Name.TheVariants.{Register, Slot}
use Rattle.affine_lift.specs.declared.value.Term.{Term}
use Rattle.affine_lift.specs.declared.value.Value.{Value}
use Rattle.affine_lift.specs.declared.value.Value.TheVariants.{Linear, Held, Unknown}
use Rattle.rv_instr.specs.declared.ImmOp.{ImmOp}
use Rattle.rv_instr.specs.declared.ImmOp.TheVariants.{Addi, Xori}
use Rattle.rv_instr.specs.declared.ShiftOp.{ShiftOp}
use Rattle.rv_instr.specs.declared.ShiftOp.TheVariants.{Slli}
use Rattle.rv_instr.specs.declared.RegOp.{RegOp}
use Rattle.rv_instr.specs.declared.RegOp.TheVariants.{Add, Sub, Or, Xor, And, Mul}

abbrev pub term : ℕ → ℕ → Term
term factor r = record { factor = factor; register = r }

abbrev pub no_term : Term
no_term = term 0 0

abbrev pub as_word : ℤ → ℕ
as_word z = cast_unsigned w64 z

abbrev pub extended : ℕ → ℕ
extended n = as_word (cast_signed w32 (n % 2 ^ 32))

abbrev pub upper : ℕ → ℕ
upper imm = extended (imm * 2 ^ 12)

abbrev pub multiple : ℕ → ℕ → Value
multiple factor r = Linear (term factor r) no_term 0

abbrev pub constant : ℕ → Value
constant c = Linear no_term no_term c

abbrev pub beside_zero : ℕ → ℕ → Option ℕ
beside_zero a b = if b == 0 then Some a else if a == 0 then Some b else None

abbrev pub imm_value : ImmOp → ℕ → ℤ → Value
imm_value Addi rs1 imm = Linear (term 1 rs1) no_term (as_word imm)
imm_value Xori rs1 (negsuc zero) = Linear (term (2 ^ 64 - 1) rs1) no_term (2 ^ 64 - 1)
imm_value op rs1 imm = Unknown

abbrev pub shift_value : ShiftOp → ℕ → ℕ → Value
shift_value Slli rs1 by = multiple (2 ^ by) rs1
shift_value op rs1 by = Unknown

abbrev pub reg_value : RegOp → ℕ → ℕ → Value
reg_value Add rs1 rs2 = Linear (term 1 rs1) (term 1 rs2) 0
reg_value Sub rs1 rs2 = Linear (term 1 rs1) (term (2 ^ 64 - 1) rs2) 0
reg_value Or rs1 rs2 = option_map_or (multiple 1) (beside_zero rs1 rs2) Unknown
reg_value Xor rs1 rs2 = option_map_or (multiple 1) (beside_zero rs1 rs2) Unknown
reg_value And rs1 rs2 = option_map_or (λ r. constant 0) (beside_zero rs1 rs2) Unknown
reg_value Mul rs1 rs2 = option_map_or (λ r. constant 0) (beside_zero rs1 rs2) Unknown
reg_value op rs1 rs2 = Unknown

-- the flow of a JAL or a JALR that links is a call
abbrev pub link_value : Flow → Value
link_value (Call target next) = constant next
link_value flow = Unknown

abbrev pub is_register : ℕ → Name → Bool
is_register r (Register q) = q == r
is_register r (Slot p below) = false

abbrev pub place_of : List Name → ℕ → Option ℕ
place_of names r = position (is_register r) names

abbrev pub factor_at : Term → ℕ → ℕ
factor_at t r = if t.register == r then t.factor else 0

abbrev pub coefficient : Term → Term → ℕ → ℕ
coefficient f g r = word (factor_at f r + factor_at g r)

abbrev pub factor_of : Term → Term → Name → ℕ
factor_of f g (Register r) = coefficient f g r
factor_of f g (Slot p below) = 0

abbrev pub is_nameable : List Name → Term → Term → Term → Bool
is_nameable names f g t = t.register == 0 || is_some (place_of names t.register) || coefficient f g t.register == 0

abbrev pub row_of : List Name → Term → Term → ℕ → List ℕ
row_of names f g c = vector (λ k. if k == 16 then c else option_map_or (factor_of f g) (slice_get names k) 0)

abbrev pub IsHeldIn : List Name → Value → Type 0
IsHeldIn names (Held k) = k < length names
IsHeldIn names value = Unit {0}

abbrev pub assigned : List Name → ℕ → Value → Assign
assigned names i (Linear f g c) = if is_nameable names f g f && is_nameable names f g g then Affine i (row_of names f g c) else Any i
assigned names i (Held k) = Affine i (unit 17 k)
assigned names i Unknown = Any i

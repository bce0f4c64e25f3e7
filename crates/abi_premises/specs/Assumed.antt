-- What is assumed of runs, point by point.
--
--   is_number v              the value is a known word
--   store_premise w v        of a store of w bytes at the address v, unless these lie in the own frame below sp
--   premise_of instr s       of an instruction
--   opaque_premise row s     of an opaque one
--   flow_premise point flow  of a point with this flow
--   stack_premise v flow     of a call, where sp is v: nothing but that sp doesn't wrap, if it is known and not above the entry's
--   assumed, assumed_if      an assumption, where there is a premise
--   assumed_at, assumed_in image rows points
--                            what is assumed at a point, and at some points
use Rattle.std.specs.Prelude.{ℕ, ◌^◌, ◌==◌, nat_le, ◌||◌, Bool, true, false, List, [], ◌∷◌, ◌++◌, Option, None, Some, option_map, option_to_list, if◌then◌else◌}
use Rattle.elf_image.specs.declared.image.Image.{Image}
use Rattle.rv_instr.specs.declared.Instr.{Instr}
use Rattle.rv_instr.specs.declared.Instr.TheVariants.{Store, Ecall}
use Rattle.rv_step.specs.Steps.{store_width}
use Rattle.opaque_words.specs.declared.rows.Row.{Row}
use Rattle.entry_values.specs.declared.values.Value.{Value}
use Rattle.entry_values.specs.declared.values.Value.TheVariants.{Is, Any}
use Rattle.entry_values.specs.declared.states.State.{State}
use Rattle.entry_values.specs.declared.flow.Flow.{Flow}
use Rattle.entry_values.specs.declared.flow.Flow.TheVariants.{On, ByTable, CallTo, Foreign, Past, TailOut, Leave, Stuck}
use Rattle.entry_values.specs.Values.{plus}
use Rattle.entry_values.specs.States.{value_at}
use Rattle.entry_tables.specs.declared.rows.Line.{Line}
use Rattle.entry_tables.specs.declared.rows.Point.{Point}
use Rattle.entry_tables.specs.declared.rows.Rows.{Rows}
use Rattle.entry_tables.specs.Settling.{point_flow, is_silent}
use Rattle.entry_runs.specs.Premises.{own_at, is_own_below}
use Rattle.abi_premises.specs.declared.premises.Premise.{Premise}
use Rattle.abi_premises.specs.declared.premises.Premise.TheVariants.{Stores, Globals, Ecalls, Opaques, Foreigns, Tails, Tables, NoReturn, Stack, Above, Partial, Exits}
use Rattle.abi_premises.specs.declared.premises.Assumption.{Assumption}

abbrev pub is_number : Value → Bool
is_number (Is b k) = b == 0
is_number (Any a kind) = false

abbrev pub store_premise : ℕ → Value → Option Premise
store_premise w v = if is_own_below (own_at w v) then None else if is_number v then Some Globals else Some Stores

abbrev pub premise_of : Instr → State → Option Premise
premise_of (Store op rs1 rs2 imm) s = store_premise (store_width op) (plus (value_at s rs1) imm)
premise_of Ecall s = Some Ecalls
premise_of instr s = None

abbrev pub line_premise : Option Line → State → Option Premise
line_premise (Some line) s = premise_of line.instr s
line_premise None s = None

abbrev pub opaque_premise : Row → State → Option Premise
opaque_premise row s =
    if row.width == 0 || is_own_below (own_at row.width (plus (value_at s row.base) row.imm)) then None else Some Opaques

abbrev pub flow_premise : Rows → Point → Flow → Option Premise
flow_premise rows point (On targets u) = line_premise point.line point.state
flow_premise rows point (ByTable targets) = Some Tables
flow_premise rows point (CallTo q next) = if is_silent rows.silent point.address then Some NoReturn else None
flow_premise rows point (Foreign next) = Some Foreigns
flow_premise rows point (Past row next u) = opaque_premise row point.state
flow_premise rows point TailOut = Some Tails
flow_premise rows point Leave = Some Exits
flow_premise rows point Stuck = Some Partial
flow_premise rows point flow = None

abbrev pub sp_premise : Value → Option Premise
sp_premise (Is b k) =
    if b == 2 then (if k == 0 || nat_le (2 ^ 63) k then None else Some Above) else Some Stack
sp_premise (Any a kind) = Some Stack

abbrev pub stack_premise : Value → Flow → Option Premise
stack_premise v (CallTo q next) = sp_premise v
stack_premise v flow = None

abbrev pub assumed : Point → Premise → Assumption
assumed point p = record { premise = p; procedure = point.procedure; address = point.address }

abbrev pub assumed_if : Point → Option Premise → List Assumption
assumed_if point p = option_to_list (option_map (assumed point) p)

abbrev pub assumed_by : Rows → Point → Flow → List Assumption
assumed_by rows point flow = assumed_if point (flow_premise rows point flow) ++ assumed_if point (stack_premise (value_at point.state 2) flow)

abbrev pub assumed_at : Image → Rows → Point → List Assumption
assumed_at image rows point = assumed_by rows point (point_flow image rows.guesses point)

abbrev pub assumed_in : Image → Rows → List Point → List Assumption
assumed_in image rows [] = []
assumed_in image rows (point ∷ rest) = assumed_at image rows point ++ assumed_in image rows rest

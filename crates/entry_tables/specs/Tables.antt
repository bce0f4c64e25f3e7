-- A table of states, with a summary for each procedure, and when it is settled.
--
--   Summary                  whether a procedure returns, and which registers it keeps
--   Line                     an instruction with its length
--   Table                    the procedures; at each address of a procedure the state, the line, and whether the point is
--                            marked; the summaries; which words of the code are opaque, and where it has words at all;
--                            the targets that are taken for jumps, and the calls that are taken not to return (stays_out)
--   next_of a line           the address behind an instruction
--   opaque_flow              the flow of a word that is no instruction of RV64IM
--   flow_by                  the flow at an address, by what is there: none that is followed where the point is marked
--   flow_of t p a            the flow at an address of a procedure: no step where no state or no code is there
--   not_below k slots        the slots at k or above, where k lies below the entry's sp
--   kept_slots v slots       the slots that a call leaves, where sp is v: those that don't lie below sp
--   by_convention            the registers that code keeps by the calling convention: sp, gp, tp and s0 to s11
--   value_returned           the value of a register behind a call from a
--   returned                 the state behind a call from a to a procedure with this summary
--   foreign                  the summary that is taken for code that isn't known
--   HasRow t p b u           the state at b, in the procedure p, claims nothing that u doesn't
--   KeepsRegisters k s       it returns, and each register that it keeps is in s itself
--   KeepsConvention k        it returns, and keeps no register that code needn't keep
--   EachOf targets P         P holds of each
--   IsClosed                 what a point owes to its flow
--   IsSettled t              each procedure has its entry, and each point owes nothing
--   line_is at instr         the line of an instruction that is fetched
--   Reads code t             each line is what the words of the code mean at its address (lines), and each address of a row
--                            has the line that they mean (rows)
use Rattle.std.specs.Prelude.{◌≡◌, ℕ, ◌+◌, ◌%◌, ◌^◌, ◌==◌, nat_le, ◌&&◌, ◌||◌, Bool, true, false, List, [], ◌∷◌, Contains, length, Option, None, Some, if◌then◌else◌}
use Rattle.elf_image.specs.declared.fetched.Fetched.{Fetched}
use Rattle.rv_instr.specs.declared.Instr.{Instr}
use Rattle.rvc_expand.specs.Lengths.{MeansWithLength}
use Rattle.opaque_words.specs.declared.rows.Row.{Row}
use Rattle.entry_tables.specs.declared.rows.Line.{Line}
use Rattle.entry_values.specs.declared.values.Value.{Value}
use Rattle.entry_values.specs.declared.values.Value.TheVariants.{Is, Any}
use Rattle.entry_values.specs.declared.values.Kind.TheVariants.{Callee}
use Rattle.entry_values.specs.declared.states.Slot.{Slot}
use Rattle.entry_values.specs.declared.states.State.{State}
use Rattle.entry_values.specs.declared.flow.Flow.{Flow}
use Rattle.entry_values.specs.declared.flow.Flow.TheVariants.{On, ByTable, CallTo, Foreign, Past, Return, TailOut, Leave, Stuck, Halt}
use Rattle.entry_values.specs.Values.{FitsWord}
use Rattle.entry_values.specs.States.{value_at, values_of, start, KnowsNoMore}
use Rattle.entry_values.specs.Opaque.{opaque_state}
use Rattle.entry_values.specs.Flows.{flow_under}

pub record Summary : Type 0 where
  pub returns : Bool
  pub keeps : ℕ → Bool

pub record Table : Type 0 where
  pub procedures : List ℕ
  pub row : ℕ → ℕ → Option State
  pub marked : ℕ → ℕ → Bool
  pub line : ℕ → ℕ → Option Line
  pub summary : ℕ → Summary
  pub opaque : ℕ → Option Row
  pub has_code : ℕ → Bool
  pub guess : ℕ → Option (List ℕ)
  pub stays_out : ℕ → Bool

abbrev pub next_of : ℕ → Line → ℕ
next_of a line = (a + line.length) % 2 ^ 64

abbrev pub opaque_flow : Option Row → Bool → ℕ → State → Flow
opaque_flow (Some row) some a s = if row.halts then Halt else Past row ((a + row.length) % 2 ^ 64) (opaque_state row a s)
opaque_flow None some a s = if some then Stuck else Halt

abbrev pub flow_by : Option State → Bool → Option Line → Option Row → Bool → Option (List ℕ) → ℕ → Flow
flow_by (Some s) true line row some guess a = Stuck
flow_by (Some s) false (Some line) row some guess a = flow_under line.instr guess a (next_of a line) s
flow_by (Some s) false None row some guess a = opaque_flow row some a s
flow_by None marked line row some guess a = Halt

abbrev pub flow_of : Table → ℕ → ℕ → Flow
flow_of t p a = flow_by (t.row p a) (t.marked p a) (t.line p a) (t.opaque a) (t.has_code a) (t.guess a) a

abbrev pub not_below : ℕ → List Slot → List Slot
not_below k [] = []
not_below k (slot ∷ rest) = if nat_le (2 ^ 63) k && nat_le k slot.offset then slot ∷ not_below k rest else not_below k rest

abbrev pub kept_slots : Value → List Slot → List Slot
kept_slots (Is b k) slots = if b == 2 then not_below k slots else slots
kept_slots (Any a kind) slots = slots

abbrev pub by_convention : ℕ → Bool
by_convention r = nat_le 2 r && nat_le r 4 || (nat_le 8 r && nat_le r 9 || nat_le 18 r && nat_le r 27)

abbrev pub value_returned : (ℕ → Bool) → State → ℕ → ℕ → ℕ → Value
value_returned keeps s a next r =
    if r == 0 then Is 0 0 else if keeps r then (if r == 1 then Is 0 next else value_at s r) else Any a Callee

abbrev pub returned : Summary → State → ℕ → ℕ → State
returned k s a next = record { values = values_of (value_returned k.keeps s a next); slots = kept_slots (value_at s 2) s.slots }

abbrev pub foreign : Summary
foreign = record { returns = true; keeps = by_convention }

pub record HasRow (t : Table) (p b : ℕ) (u : State) : Type 0 where
  pub state : State
  pub is : t.row p b ≡ Some state
  pub less : KnowsNoMore u state

pub record KeepsRegisters (k : Summary) (s : State) : Type 0 where
  pub returns : k.returns ≡ true
  pub kept : (r : ℕ) → k.keeps r ≡ true → value_at s r ≡ Is r 0

pub record KeepsConvention (k : Summary) : Type 0 where
  pub returns : k.returns ≡ true
  pub kept : (r : ℕ) → k.keeps r ≡ true → by_convention r ≡ true

abbrev pub EachOf : List ℕ → (ℕ → Type 0) → Type 0
EachOf [] P = Unit {0}
EachOf (b ∷ rest) P = P b × EachOf rest P

abbrev pub IsClosed : Table → ℕ → ℕ → State → Flow → Type 0
IsClosed t p a s (On targets u) = EachOf targets (λ b. HasRow t p b u)
IsClosed t p a s (ByTable targets) = EachOf targets (λ b. HasRow t p b s)
IsClosed t p a s (CallTo q next) =
    Contains t.procedures q
    × ((t.summary q).returns ≡ true → t.stays_out a ≡ false → HasRow t p next (returned (t.summary q) s a next))
IsClosed t p a s (Past row next u) = HasRow t p next u
IsClosed t p a s (Foreign next) = HasRow t p next (returned foreign s a next)
IsClosed t p a s Return = KeepsRegisters (t.summary p) s
IsClosed t p a s TailOut = KeepsConvention (t.summary p) × KeepsRegisters (t.summary p) s
IsClosed t p a s Leave = Unit {0}
IsClosed t p a s Stuck = KeepsConvention (t.summary p)
IsClosed t p a s Halt = Unit {0}

pub record IsSettled (t : Table) : Type 0 where
  pub wide : (p a : ℕ) (s : State) → t.row p a ≡ Some s → length s.values ≡ 32
  pub words : (p a : ℕ) (s : State) → t.row p a ≡ Some s → (r : ℕ) → FitsWord (value_at s r)
  pub entries : (p : ℕ) → Contains t.procedures p → HasRow t p p start
  pub closed : (p a : ℕ) (s : State) → t.row p a ≡ Some s → IsClosed t p a s (flow_of t p a)

abbrev pub line_is : Fetched → Instr → Line
line_is at instr = record { instr = instr; length = at.length }

pub record Reads (code : ℕ → Option Fetched) (t : Table) : Type 0 where
  pub lines : (p a : ℕ) (line : Line) → t.line p a ≡ Some line → (at : Fetched) (instr : Instr) → code a ≡ Some at
      → MeansWithLength at.word at.length instr → line ≡ line_is at instr
  pub rows : (p a : ℕ) (s : State) → t.row p a ≡ Some s → (at : Fetched) (instr : Instr) → code a ≡ Some at
      → MeansWithLength at.word at.length instr → t.line p a ≡ Some (line_is at instr)

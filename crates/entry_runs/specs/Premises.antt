-- What a run has to keep, step by step: each is a condition on one step, from m to n, whose frames are f, the last one, and
-- rest.
--
--   Own                    the place of a store: an offset from the entry's sp, and a width
--   own_at w v             w bytes at the address v, where that is known by the entry's sp
--   own_of instr s         the place of a store in the own frame, where the state tells it
--   own_opaque row s       the place of what an opaque instruction may change
--   own_by row line some   that of what stands at a point
--   own_store t f          that of the instruction at which the frame is
--   is_own_below o         it is there, and lies below the entry's sp
--   slots_left row         the slots that a call under this state leaves
--   waiting_slots t g      the slots of a frame that waits: those that its call leaves
--   Spares entry slots m n the step changes no byte of a slot that claims something
--   AllSpared, AllAbove    so for the slots of each frame that waits; LiesAbove for each
--   IsPlaced entry o       a place at the offset o, below sp, doesn't wrap: there is as much room below sp
--   LiesAbove a entry slots
--                          each slot that claims something lies at or above the address a
--   OneOf b A B            A where b is true, else B
--   StackAt, StackBy       what a call keeps of the stack, by the value of sp, and by the state
--   StackStays             at a call, sp is at most the address of each slot of a frame that waits. Where the state knows sp,
--                          it is enough that sp doesn't wrap: there is as much room below sp at the entry
--   KeepsStep              what is fetched at pc is what the code has there, and slots are kept
--   KeepsSlots             waiting     a step that isn't a store in the own frame below sp spares the slots of those that wait
--                          own         a step that isn't a store at a known place of the own frame spares that frame's slots
--                          stack_below a store in the own frame below sp doesn't wrap
--   Among, MayReturn       an address is one of some; the call to which a frame goes back is one that is taken to return
--   ComesBack, GoesOut     what is taken of code that isn't known
--   KeepsAt frames         what the step keeps, by the last frame's flow
--   KeepsBy flow           what the step keeps, by the flow of the point: a call keeps the stack, too; no step leaves
use Rattle.std.specs.Prelude.{◌≡◌, ◌≢◌, ◌⊎◌, ℕ, ◌+◌, ◌%◌, ◌^◌, ◌<◌, ◌≤◌, ◌==◌, Bool, true, false, List, [], ◌∷◌, slice_index, Option, None, Some, if◌then◌else◌}
use Rattle.elf_image.specs.declared.fetched.Fetched.{Fetched}
use Rattle.rv_instr.specs.declared.Instr.{Instr}
use Rattle.rv_instr.specs.declared.Instr.TheVariants.{Store}
use Rattle.rv_step.specs.Harts.{Hart, x, fetched}
use Rattle.rv_step.specs.Steps.{store_width, even}
use Rattle.entry_values.specs.declared.values.Value.{Value}
use Rattle.entry_values.specs.declared.values.Value.TheVariants.{Is, Any}
use Rattle.entry_values.specs.Values.{plus}
use Rattle.entry_values.specs.declared.states.Slot.{Slot}
use Rattle.entry_values.specs.declared.states.State.{State}
use Rattle.entry_values.specs.States.{value_at, HasSlot, place}
use Rattle.entry_values.specs.Transfers.{is_below}
use Rattle.opaque_words.specs.declared.rows.Row.{Row}
use Rattle.entry_values.specs.declared.flow.Flow.{Flow}
use Rattle.entry_values.specs.declared.flow.Flow.TheVariants.{On, ByTable, CallTo, Foreign, Past, Return, TailOut, Leave, Stuck, Halt}
use Rattle.entry_tables.specs.declared.rows.Line.{Line}
use Rattle.entry_tables.specs.Tables.{Table, flow_of, kept_slots, by_convention}
use Rattle.entry_runs.specs.Frames.{Frame}

pub record Own : Type 0 where
  pub offset : ℕ
  pub width : ℕ

abbrev pub own_at : ℕ → Value → Option Own
own_at w (Is b o) = if b == 2 then Some (record { offset = o; width = w }) else None
own_at w (Any a kind) = None

abbrev pub own_of : Instr → State → Option Own
own_of (Store op rs1 rs2 imm) s = own_at (store_width op) (plus (value_at s rs1) imm)
own_of instr s = None

abbrev pub own_opaque : Option Row → State → Option Own
own_opaque (Some row) s = own_at row.width (plus (value_at s row.base) row.imm)
own_opaque None s = None

abbrev pub own_by : Option State → Option Line → Option Row → Option Own
own_by (Some s) (Some line) row = own_of line.instr s
own_by (Some s) None row = own_opaque row s
own_by None line row = None

abbrev pub own_store : Table → Frame → Option Own
own_store t f = own_by (t.row f.procedure f.at) (t.line f.procedure f.at) (t.opaque f.at)

abbrev pub is_own_below : Option Own → Bool
is_own_below None = false
is_own_below (Some own) = is_below own.offset own.width

abbrev pub slots_left : Option State → List Slot
slots_left None = []
slots_left (Some s) = kept_slots (value_at s 2) s.slots

abbrev pub waiting_slots : Table → Frame → List Slot
waiting_slots t g = slots_left (t.row g.procedure g.at)

abbrev pub Spares : List ℕ → List Slot → Hart → Hart → Type 0
Spares entry slots m n =
    (o b k : ℕ) → HasSlot slots o (Is b k) → (j : ℕ) → j < 8
    → n.memory ((place entry o + j) % 2 ^ 64) ≡ m.memory ((place entry o + j) % 2 ^ 64)

abbrev pub IsPlaced : List ℕ → ℕ → Type 0
IsPlaced entry o = 2 ^ 64 ≤ slice_index entry 2 + o

abbrev pub LiesAbove : ℕ → List ℕ → List Slot → Type 0
LiesAbove a entry slots = (o b k : ℕ) → HasSlot slots o (Is b k) → a ≤ place entry o

abbrev pub AllSpared : Table → Hart → Hart → List Frame → Type 0
AllSpared t m n [] = Unit {0}
AllSpared t m n (g ∷ rest) = Spares g.registers (waiting_slots t g) m n × AllSpared t m n rest

abbrev pub AllAbove : Table → ℕ → List Frame → Type 0
AllAbove t a [] = Unit {0}
AllAbove t a (g ∷ rest) = LiesAbove a g.registers (waiting_slots t g) × AllAbove t a rest

abbrev pub OneOf : Bool → Type 0 → Type 0 → Type 0
OneOf true A B = A
OneOf false A B = B

abbrev pub StackAt : List ℕ → Value → Type 0 → Type 0
StackAt entry (Is b k) Else = OneOf (b == 2) ((k ≢ 0 → (2 ^ 63 ≤ k) × IsPlaced entry k) ⊎ Else) Else
StackAt entry (Any a kind) Else = Else

abbrev pub StackBy : Table → Frame → List Frame → Hart → Option State → Type 0
StackBy t f rest m None = Unit {0}
StackBy t f rest m (Some s) = StackAt f.registers (value_at s 2) (AllAbove t (x m 2) (f ∷ rest))

abbrev pub StackStays : Table → Frame → List Frame → Hart → Type 0
StackStays t f rest m = StackBy t f rest m (t.row f.procedure f.at)

abbrev pub Among : List ℕ → ℕ → Type 0
Among [] a = ⊥
Among (b ∷ rest) a = (a ≡ b) ⊎ Among rest a

-- a frame that ends goes back behind a call that is taken to return
abbrev pub MayReturn : Table → List Frame → Type 0
MayReturn t [] = Unit {0}
MayReturn t (g ∷ rest) = t.stays_out g.at ≡ false

pub record KeepsSlots (t : Table) (m n : Hart) (f : Frame) (rest : List Frame) : Type 0 where
  pub waiting : is_own_below (own_store t f) ≡ false → AllSpared t m n rest
  pub own : own_store t f ≡ None → (s : State) → t.row f.procedure f.at ≡ Some s → Spares f.registers s.slots m n
  pub stack_below : (own : Own) → own_store t f ≡ Some own → is_below own.offset own.width ≡ true → IsPlaced f.registers own.offset

pub record KeepsStep (t : Table) (code : ℕ → Option Fetched) (m n : Hart) (f : Frame) (rest : List Frame) : Type 0 where
  pub code_stays : fetched m ≡ code m.pc
  pub slots : KeepsSlots t m n f rest

-- code that isn't known comes back, and keeps the convention
pub record ComesBack (t : Table) (next : ℕ) (m n : Hart) (f : Frame) (rest : List Frame) : Type 0 where
  pub pc : n.pc ≡ next
  pub kept : (r : ℕ) → by_convention r ≡ true → x n r ≡ x m r
  pub own : Spares f.registers (waiting_slots t f) m n
  pub waiting : AllSpared t m n rest

-- it goes to the word that ra had at the entry, and these registers are as they are in a list of words
pub record GoesOut (t : Table) (regs : List ℕ) (m n : Hart) (f : Frame) (rest : List Frame) : Type 0 where
  pub pc : n.pc ≡ even (slice_index f.registers 1)
  pub kept : (r : ℕ) → by_convention r ≡ true → x n r ≡ slice_index regs r
  pub waiting : AllSpared t m n rest
  pub returns : MayReturn t rest

abbrev pub KeepsBy : Flow → Table → (ℕ → Option Fetched) → Hart → Hart → Frame → List Frame → Type 0
KeepsBy (On targets s) t code m n f rest = KeepsStep t code m n f rest
KeepsBy (ByTable targets) t code m n f rest = KeepsStep t code m n f rest × Among targets n.pc
KeepsBy (CallTo q next) t code m n f rest = KeepsStep t code m n f rest × StackStays t f rest m
KeepsBy (Past row next s) t code m n f rest = KeepsSlots t m n f rest
KeepsBy (Foreign next) t code m n f rest = ComesBack t next m n f rest
KeepsBy Return t code m n f rest = KeepsStep t code m n f rest × MayReturn t rest
KeepsBy TailOut t code m n f rest = GoesOut t m.registers m n f rest
KeepsBy Leave t code m n f rest = ⊥
KeepsBy Stuck t code m n f rest = GoesOut t f.registers m n f rest
KeepsBy Halt t code m n f rest = KeepsStep t code m n f rest

abbrev pub KeepsAt : Table → (ℕ → Option Fetched) → Hart → Hart → List Frame → Type 0
KeepsAt t code m n [] = Unit {0}
KeepsAt t code m n (f ∷ rest) = KeepsBy (flow_of t f.procedure f.at) t code m n f rest

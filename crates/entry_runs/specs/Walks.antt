-- A frame of a run along one way, with the states that this way makes, without joins.
--
--   flow_at t p a s           the flow at an address of p, under this state
--   IsState s                 32 values, whose numbers are words
--   KeepsWalk t entry p s a m n
--                             what a step of the frame keeps, under the way's own state: its slots may be more than those of
--                             the table, and they are to be spared too
--   GuardBy, GuardAt, Guards
--                             each step of a run, by its flow, that isn't a store below its own frame's entry spares these slots,
--                             and at each call in it sp is at most their addresses
--   frame_of q registers a    a frame
--   MadeCall t code q m n
--                             from m a procedure was called, and at n its frame has ended: between them lies a run from q that
--                             keeps the premises
--   Along t code entry p a s m
--                             a frame of p, opened with these registers, has gone to the address a, where the way's state is s
--                             and the machine is m. Calls are stepped over: at a call sp is at most the addresses of the slots
--                             that it leaves, its steps guard them, and its target is a procedure of the table
--   IsThere entry a s m       the machine is at a, and the state describes it
--   WaysAreDescribed          the way's state describes the machine
use Rattle.std.specs.Prelude.{◌≡◌, ℕ, suc, ◌<◌, true, false, List, [], ◌∷◌, Contains, length, Option, None, Some}
use Rattle.elf_image.specs.declared.fetched.Fetched.{Fetched}
use Rattle.rv_step.specs.Harts.{Hart, IsHart, x, fetched}
use Rattle.rv_step.specs.Steps.{Step}
use Rattle.entry_values.specs.Values.{FitsWord}
use Rattle.entry_values.specs.declared.states.Slot.{Slot}
use Rattle.entry_values.specs.declared.states.State.{State}
use Rattle.entry_values.specs.States.{start, value_at, Describes}
use Rattle.entry_values.specs.Transfers.{is_below}
use Rattle.opaque_words.specs.declared.rows.Row.{Row}
use Rattle.entry_values.specs.Opaque.{OpaqueStep}
use Rattle.entry_values.specs.declared.flow.Flow.{Flow}
use Rattle.entry_values.specs.declared.flow.Flow.TheVariants.{On, ByTable, CallTo, Foreign, Past, TailOut, Stuck}
use Rattle.entry_tables.specs.Tables.{Table, IsSettled, flow_by, kept_slots, by_convention, foreign, returned, Reads}
use Rattle.entry_runs.specs.Frames.{Frame, frames_at}
use Rattle.entry_runs.specs.Premises.{Own, own_by, own_store, is_own_below, Spares, IsPlaced, LiesAbove}
use Rattle.entry_runs.specs.Theorems.{IsRunFrom, KeepsUpTo, Ends}
use Rattle.entry_tables.specs.Tables as tables

abbrev pub flow_at : Table → ℕ → ℕ → State → Flow
flow_at t p a s = flow_by (Some s) (t.marked p a) (t.line p a) (t.opaque a) (t.has_code a) (t.guess a) a

pub record IsState (s : State) : Type 0 where
  pub wide : length s.values ≡ 32
  pub words : (r : ℕ) → FitsWord (value_at s r)

pub record KeepsWalk (t : Table) (entry : List ℕ) (p : ℕ) (s : State) (a : ℕ) (m n : Hart) : Type 0 where
  pub own : own_by (Some s) (t.line p a) (t.opaque a) ≡ None → Spares entry s.slots m n
  pub stack_below : (own : Own) → own_by (Some s) (t.line p a) (t.opaque a) ≡ Some own → is_below own.offset own.width ≡ true → IsPlaced entry own.offset

abbrev pub GuardBy : Flow → Table → List ℕ → List Slot → Hart → Hart → Frame → Type 0
GuardBy (CallTo q next) t entry slots m n f = (is_own_below (own_store t f) ≡ false → Spares entry slots m n) × LiesAbove (x m 2) entry slots
GuardBy (Foreign next) t entry slots m n f = Spares entry slots m n
GuardBy TailOut t entry slots m n f = Spares entry slots m n
GuardBy Stuck t entry slots m n f = Spares entry slots m n
GuardBy flow t entry slots m n f = is_own_below (own_store t f) ≡ false → Spares entry slots m n

abbrev pub GuardAt : Table → List ℕ → List Slot → Hart → Hart → List Frame → Type 0
GuardAt t entry slots m n [] = Unit {0}
GuardAt t entry slots m n (f ∷ rest) = GuardBy (tables.flow_of t f.procedure f.at) t entry slots m n f

abbrev pub Guards : Table → List ℕ → List Slot → ℕ → (ℕ → Hart) → ℕ → Type 0
Guards t entry slots q run n = (i : ℕ) → i < n → GuardAt t entry slots (run i) (run (suc i)) (frames_at t q run i)

abbrev pub frame_of : ℕ → List ℕ → ℕ → Frame
frame_of q registers at = record { procedure = q; registers = registers; at = at }

pub record MadeCall (t : Table) (code : ℕ → Option Fetched) (q : ℕ) (m n : Hart) : Type 0 where
  pub run : ℕ → Hart
  pub count : ℕ
  pub into : Step m (run 0)
  pub is_run : IsRunFrom t q run (suc count)
  pub keeps : KeepsUpTo t code q run (suc count)
  pub at : ℕ
  pub last : frames_at t q run count ≡ frame_of q (run 0).registers at ∷ []
  pub ends : Ends (tables.flow_of t q at)
  pub to : run (suc count) ≡ n
  pub hart : IsHart (run (suc count))

pub data Along (t : Table) (code : ℕ → Option Fetched) (entry : List ℕ) (p : ℕ) : ℕ → State → Hart → Type 0 where
  begins : (m : Hart) → IsHart m → m.registers ≡ entry → m.pc ≡ p → Along t code entry p p start m
  steps : (a : ℕ) (s : State) (m n : Hart) (targets : List ℕ) (u : State) → Along t code entry p a s m → Step m n → fetched m ≡ code m.pc → KeepsWalk t entry p s a m n
      → flow_at t p a s ≡ On targets u → IsState u → Along t code entry p n.pc u n
  jumps : (a : ℕ) (s : State) (m n : Hart) (targets : List ℕ) → Along t code entry p a s m → Step m n → fetched m ≡ code m.pc → KeepsWalk t entry p s a m n
      → flow_at t p a s ≡ ByTable targets → Along t code entry p n.pc s n
  calls : (a : ℕ) (s : State) (m n : Hart) (q next : ℕ) (u : State) → Along t code entry p a s m → Contains t.procedures q → (call : MadeCall t code q m n)
      → fetched m ≡ code m.pc → KeepsWalk t entry p s a m (call.run 0) → flow_at t p a s ≡ CallTo q next → LiesAbove (x m 2) entry (kept_slots (value_at s 2) s.slots)
      → Guards t entry (kept_slots (value_at s 2) s.slots) q call.run (suc call.count)
      → u ≡ returned (t.summary q) s a next → IsState u → Along t code entry p next u n
  past : (a : ℕ) (s : State) (m n : Hart) (row : Row) (next : ℕ) (u : State) → Along t code entry p a s m → OpaqueStep row next m n → KeepsWalk t entry p s a m n
      → flow_at t p a s ≡ Past row next u → IsState u → Along t code entry p next u n
  passes : (a : ℕ) (s : State) (m n : Hart) (next : ℕ) (u : State) → Along t code entry p a s m → flow_at t p a s ≡ Foreign next → IsHart n → n.pc ≡ next
      → ((r : ℕ) → by_convention r ≡ true → x n r ≡ x m r) → Spares entry (kept_slots (value_at s 2) s.slots) m n
      → u ≡ returned foreign s a next → IsState u → Along t code entry p next u n

pub record IsThere (entry : List ℕ) (a : ℕ) (s : State) (m : Hart) : Type 0 where
  pub pc : m.pc ≡ a
  pub described : Describes entry s m

abbrev pub WaysAreDescribed : Type 0
WaysAreDescribed =
    (t : Table) (code : ℕ → Option Fetched) (entry : List ℕ) (p a : ℕ) (s : State) (m : Hart) → IsSettled t → Reads code t
    → Along t code entry p a s m → IsThere entry a s m

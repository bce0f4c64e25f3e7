-- What holds of runs under a settled table.
--
--   IsRunFrom t p run n     a run from the procedure p, whose first n steps each go by the flow of their point
--   GoesBy flow             a step by this flow
--   Goes                    a step of the machine; or, where the flow is left to code that isn't known, any machine
--   KeepsUpTo               the first n steps keep the premises
--   Waits t memory q regs g the frame g waits at its call, which opened the procedure q, with these registers: what its state says
--                           of registers holds of them, and what it says of the slots that its call leaves holds of memory
--   AllWait                 so for each frame and the one before it
--   LastIsDescribed         the last frame is where the machine is, and its row describes it
--   IsDescribed             the last frame's state describes the machine, and the others wait
--   RunsAreDescribed        a run that keeps the premises up to a moment is described at each moment up to it, as long as its
--                           first frame is open
--   Ends flow               a frame ends there
--   Restores t n f          at n the frame f has gone home: pc is the word that ra had at its entry, with bit 0 cleared; its
--                           summary says that it returns; and the registers that it keeps are as they were
--   KeptRegistersAreKept    at each end of a frame in such a run, to the address that the frame's ra had at its entry, each register
--                           that the summary keeps has the word that it had there
use Rattle.std.specs.Prelude.{◌≡◌, ◌≢◌, ℕ, suc, ◌<◌, ◌≤◌, true, List, [], ◌∷◌, Contains, slice_index, Option, Some}
use Rattle.elf_image.specs.Fetches.{read}
use Rattle.elf_image.specs.declared.fetched.Fetched.{Fetched}
use Rattle.rv_step.specs.Harts.{Hart, IsHart, x}
use Rattle.rv_step.specs.Steps.{Step, even}
use Rattle.entry_values.specs.declared.values.Value.TheVariants.{Is}
use Rattle.entry_values.specs.Values.{Means}
use Rattle.entry_values.specs.declared.states.State.{State}
use Rattle.entry_values.specs.States.{HasSlot, Describes, value_at, place}
use Rattle.entry_values.specs.Opaque.{OpaqueStep}
use Rattle.entry_values.specs.declared.flow.Flow.{Flow}
use Rattle.entry_values.specs.declared.flow.Flow.TheVariants.{CallTo, Foreign, Past, Return, TailOut, Stuck}
use Rattle.entry_tables.specs.Tables.{Table, IsSettled, Reads, flow_of}
use Rattle.entry_runs.specs.Frames.{Frame, frames_at}
use Rattle.entry_runs.specs.Premises.{KeepsAt, waiting_slots}

abbrev pub GoesBy : Flow → Hart → Hart → Type 0
GoesBy (Past row next s) m n = OpaqueStep row next m n
GoesBy (Foreign next) m n = IsHart n
GoesBy TailOut m n = IsHart n
GoesBy Stuck m n = IsHart n
GoesBy flow m n = Step m n

abbrev pub Goes : Table → Hart → Hart → List Frame → Type 0
Goes t m n [] = Unit {0}
Goes t m n (f ∷ rest) = GoesBy (flow_of t f.procedure f.at) m n

pub record IsRunFrom (t : Table) (p : ℕ) (run : ℕ → Hart) (n : ℕ) : Type 0 where
  pub entry : (run 0).pc ≡ p
  pub hart : IsHart (run 0)
  pub steps : (i : ℕ) → i < n → Goes t (run i) (run (suc i)) (frames_at t p run i)

abbrev pub KeepsUpTo : Table → (ℕ → Option Fetched) → ℕ → (ℕ → Hart) → ℕ → Type 0
KeepsUpTo t code p run n = (i : ℕ) → i < n → KeepsAt t code (run i) (run (suc i)) (frames_at t p run i)

pub record Waits (t : Table) (memory : ℕ → ℕ) (q : ℕ) (regs : List ℕ) (g : Frame) : Type 0 where
  pub state : State
  pub is : t.row g.procedure g.at ≡ Some state
  pub next : ℕ
  pub flow : flow_of t g.procedure g.at ≡ CallTo q next
  pub link : slice_index regs 1 ≡ next
  pub link_even : even next ≡ next
  pub registers : (r : ℕ) → r ≢ 1 → Means g.registers (value_at state r) (slice_index regs r)
  pub slots : (o b k : ℕ) → HasSlot (waiting_slots t g) o (Is b k) → Means g.registers (Is b k) (read 8 memory (place g.registers o))

abbrev pub AllWait : Table → (ℕ → ℕ) → ℕ → List ℕ → List Frame → Type 0
AllWait t memory q regs [] = Unit {0}
AllWait t memory q regs (g ∷ rest) = Waits t memory q regs g × AllWait t memory g.procedure g.registers rest

pub record LastIsDescribed (t : Table) (m : Hart) (f : Frame) : Type 0 where
  pub at : f.at ≡ m.pc
  pub state : State
  pub is : t.row f.procedure m.pc ≡ Some state
  pub described : Describes f.registers state m

abbrev pub IsDescribed : Table → Hart → List Frame → Type 0
IsDescribed t m [] = Unit {0}
IsDescribed t m (f ∷ rest) = LastIsDescribed t m f × AllWait t m.memory f.procedure f.registers rest

abbrev pub RunsAreDescribed : Type 0
RunsAreDescribed =
    (t : Table) (code : ℕ → Option Fetched) (p : ℕ) (run : ℕ → Hart) (n : ℕ) → IsSettled t → Reads code t → Contains t.procedures p
    → IsRunFrom t p run n → KeepsUpTo t code p run n → (i : ℕ) → i ≤ n → IsDescribed t (run i) (frames_at t p run i)

pub record Restores (t : Table) (n : Hart) (f : Frame) : Type 0 where
  pub home : n.pc ≡ even (slice_index f.registers 1)
  pub returns : (t.summary f.procedure).returns ≡ true
  pub kept : (r : ℕ) → (t.summary f.procedure).keeps r ≡ true → x n r ≡ slice_index f.registers r

abbrev pub Ends : Flow → Type 0
Ends Return = Unit {0}
Ends TailOut = Unit {0}
Ends Stuck = Unit {0}
Ends flow = ⊥

abbrev pub KeptRegistersAreKept : Type 0
KeptRegistersAreKept =
    (t : Table) (code : ℕ → Option Fetched) (p : ℕ) (run : ℕ → Hart) (n : ℕ) → IsSettled t → Reads code t → Contains t.procedures p
    → IsRunFrom t p run n → KeepsUpTo t code p run n → (i : ℕ) → i < n → (f : Frame) (rest : List Frame)
    → frames_at t p run i ≡ f ∷ rest → Ends (flow_of t f.procedure f.at) → Restores t (run (suc i)) f

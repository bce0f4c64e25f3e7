-- The slots of a way, behind the steps of a call.
use Rattle.std.proofs.Common.{◌≡◌, ℕ, zero, suc, ◌<◌, ◌≤◌, Bool, true, false, List, [], ◌∷◌, Contains, slice_index, Option, None, Some, refl, ap, sym, ◌∙◌, arith, subst}
use Rattle.elf_image.specs.declared.fetched.Fetched.{Fetched}
use Rattle.rv_step.specs.Harts.{Hart, x}
use Rattle.rv_step.specs.Steps.{Step}
use Rattle.entry_values.specs.Values.{plus}
use Rattle.entry_values.specs.declared.states.Slot.{Slot}
use Rattle.entry_values.specs.declared.states.State.{State}
use Rattle.entry_values.specs.States.{value_at, place}
use Rattle.entry_values.specs.Transfers.{is_below}
use Rattle.entry_values.specs.Opaque.{Outside}
use Rattle.entry_values.specs.declared.flow.Flow.{Flow}
use Rattle.entry_values.specs.declared.flow.Flow.TheVariants.{On, ByTable, CallTo, Foreign, Past, Return, TailOut, Leave, Stuck, Halt}
use Rattle.entry_tables.specs.Tables.{Table, IsSettled, flow_by, flow_of, Reads}
use Rattle.entry_runs.specs.Frames.{Frame, ended, turned_by, turned, frames_at}
use Rattle.entry_runs.specs.Premises.{Own, own_at, own_by, own_store, is_own_below, Spares, IsPlaced, LiesAbove, KeepsStep, KeepsBy, KeepsAt}
use Rattle.entry_runs.specs.Theorems.{GoesBy, Goes, IsRunFrom, KeepsUpTo}
use Rattle.entry_runs.specs.Walks.{GuardBy, GuardAt, Guards}
use Rattle.entry_runs.proofs.Describing.{AreWords, AllPlaced}
use Rattle.entry_runs.proofs.Executing.{Follows}
use Rattle.entry_runs.proofs.Sparing.{own_stores, own_changes, store_spares}
use Rattle.entry_runs.proofs.Standing.{AllStand, written_other}
use Rattle.entry_runs.proofs.Following.{clear_of, made, next, follows}
use Rattle.entry_runs.proofs.Passing.{past_is}
use Rattle.entry_runs.proofs.Running.{all_stand}

abbrev pub IsOpen : List Frame → Type 0
IsOpen [] = ⊥
IsOpen (f ∷ rest) = Unit {0}

module _ (t : Table) (code : ℕ → Option Fetched) (settled : IsSettled t) (reads : Reads code t) (entry : List ℕ) (slots : List Slot) (words : AreWords entry)
    (placed : AllPlaced entry slots) where
  -- each frame was opened with sp at or below the slots
  abbrev AllUnder : List Frame → Type 0
  AllUnder [] = Unit {0}
  AllUnder (f ∷ rest) = LiesAbove (slice_index f.registers 2) entry slots × AllUnder rest

  module _ (m n : Hart) (f : Frame) (rest : List Frame) (stands : AllStand t m (f ∷ rest)) (under : AllUnder (f ∷ rest)) where
    by_own : ((own : Own) → own_store t f ≡ Some own → Outside own.width (place f.registers own.offset) m.memory n.memory)
        → ((own : Own) → own_store t f ≡ Some own → is_below own.offset own.width ≡ true → IsPlaced f.registers own.offset)
        → (is_own_below (own_store t f) ≡ false → Spares entry slots m n) → Spares entry slots m n
    by_own outside room spared = by (own_store t f) refl
      where
        below : (own : Own) → own_store t f ≡ Some own → (b : Bool) → is_below own.offset own.width ≡ b → Spares entry slots m n
        below own e false is = spared (ap is_own_below e ∙ is)
        below own e true is = store_spares f.registers own m n stands.0.words (outside own e) is (room own e is) entry slots words placed under.0

        by : (o : Option Own) → own_store t f ≡ o → Spares entry slots m n
        by None e = spared (ap is_own_below e)
        by (Some own) e = below own e (is_below own.offset own.width) refl

    by_step : Step m n → KeepsStep t code m n f rest → t.marked f.procedure f.at ≡ false → (is_own_below (own_store t f) ≡ false → Spares entry slots m n) → Spares entry slots m n
    by_step step keeps clear spared =
        let mine = made t code settled reads m n f rest stands.0 stands.1 stands.2 step keeps clear in
        by_own (λ own e. own_stores f.registers stands.0.state m n (next t code settled reads m n f rest stands.0 stands.1 stands.2 step keeps clear) own stands.0.told
        mine.line.instr mine.made (sym mine.own_is ∙ e)) keeps.slots.stack_below spared

    step_guards : (flow : Flow) → flow_of t f.procedure f.at ≡ flow → GoesBy flow m n → KeepsBy flow t code m n f rest → GuardBy flow t entry slots m n f
        → Spares entry slots m n
    step_guards (On targets u) e step keeps guard = by_step step keeps (clear_of t code settled reads m n f stands.0 _ e tt) guard
    step_guards (ByTable targets) e step keeps guard = by_step step keeps.0 (clear_of t code settled reads m n f stands.0 _ e tt) guard
    step_guards (CallTo q behind) e step keeps guard = by_step step keeps.0 (clear_of t code settled reads m n f stands.0 _ e tt) guard.0
    step_guards Return e step keeps guard = by_step step keeps.0 (clear_of t code settled reads m n f stands.0 _ e tt) guard
    step_guards Halt e step keeps guard = by_step step keeps (clear_of t code settled reads m n f stands.0 _ e tt) guard
    step_guards (Foreign behind) e hart keeps guard = guard
    step_guards TailOut e hart keeps guard = guard
    step_guards Stuck e hart keeps guard = guard
    step_guards Leave e step keeps guard = absurd keeps
    step_guards (Past row behind u) e step keeps guard =
        let here = past_is f.at stands.0.state (t.marked f.procedure f.at) (t.line f.procedure f.at) (t.opaque f.at) (t.has_code f.at) (t.guess f.at) row behind u
        (sym (ap (λ (o : Option State). flow_by o (t.marked f.procedure f.at) (t.line f.procedure f.at) (t.opaque f.at) (t.has_code f.at) (t.guess f.at) f.at) stands.0.is) ∙ e) in
        let own_is : own_store t f ≡ own_at row.width (plus (value_at stands.0.state row.base) row.imm) =
        ap (λ (o : Option State). own_by o (t.line f.procedure f.at) (t.opaque f.at)) stands.0.is ∙ here.own in
        by_own (λ own some. own_changes f.registers stands.0.state m n row behind own stands.0.told step (sym own_is ∙ some)) keeps.stack_below guard

    under_after : (flow : Flow) → flow_of t f.procedure f.at ≡ flow → GoesBy flow m n → KeepsBy flow t code m n f rest → GuardBy flow t entry slots m n f
        → AllUnder (turned_by flow n f rest)
    under_after (On targets u) e step keeps guard = under
    under_after (ByTable targets) e step keeps guard = under
    under_after (Foreign behind) e step keeps guard = under
    under_after (Past row behind u) e step keeps guard = under
    under_after Halt e step keeps guard = under
    under_after Leave e step keeps guard = absurd keeps
    under_after Return e step keeps guard = left rest under.1
      where
        left : (later : List Frame) → AllUnder later → AllUnder (ended n.pc later)
        left [] u = tt
        left (g ∷ later) u = u
    under_after TailOut e step keeps guard = left rest under.1
      where
        left : (later : List Frame) → AllUnder later → AllUnder (ended n.pc later)
        left [] u = tt
        left (g ∷ later) u = u
    under_after Stuck e step keeps guard = left rest under.1
      where
        left : (later : List Frame) → AllUnder later → AllUnder (ended n.pc later)
        left [] u = tt
        left (g ∷ later) u = u
    under_after (CallTo q behind) e step keeps guard =
        let to = subst (Follows f.registers (next t code settled reads m n f rest stands.0 stands.1 stands.2 step keeps.0 (clear_of t code settled reads m n f stands.0 _ e tt)) stands.0.state m n) e
        (follows t code settled reads m n f rest stands.0 stands.1 stands.2 step keeps.0 (clear_of t code settled reads m n f stands.0 _ e tt)) in
        let enters = to.0 in
        let sp : slice_index n.registers 2 ≡ x m 2 =
        ap (λ (regs : List ℕ). slice_index regs 2) enters.registers ∙ written_other m.registers 1 _ 2 (λ same. omega arith) in
        (subst (λ (a : ℕ). LiesAbove a entry slots) (sym sp) guard.1, under)

  onward : (m n : Hart) (frames : List Frame) → AllStand t m frames → AllUnder frames → Goes t m n frames → KeepsAt t code m n frames
      → GuardAt t entry slots m n frames → AllUnder (turned t n frames)
  onward m n [] stands under goes keeps guard = tt
  onward m n (f ∷ rest) stands under goes keeps guard = under_after m n f rest stands under (flow_of t f.procedure f.at) refl goes keeps guard

  spared_by : (m n : Hart) (frames : List Frame) → AllStand t m frames → AllUnder frames → Goes t m n frames → KeepsAt t code m n frames
      → GuardAt t entry slots m n frames → IsOpen frames → Spares entry slots m n
  spared_by m n [] stands under goes keeps guard open_is = absurd open_is
  spared_by m n (f ∷ rest) stands under goes keeps guard open_is = step_guards m n f rest stands under (flow_of t f.procedure f.at) refl goes keeps guard

  open_before : (n : Hart) (frames : List Frame) → IsOpen (turned t n frames) → IsOpen frames
  open_before n [] open_is = open_is
  open_before n (f ∷ rest) open_is = tt

  module _ (q : ℕ) (run : ℕ → Hart) (n : ℕ) (owned : Contains t.procedures q) (r : IsRunFrom t q run n) (keeps : KeepsUpTo t code q run n)
      (guards : Guards t entry slots q run n) (low : LiesAbove (x (run 0) 2) entry slots) where
    under_at : (i : ℕ) → i ≤ n → AllUnder (frames_at t q run i)
    under_at zero small = (low, tt)
    under_at (suc i) small =
        onward (run i) (run (suc i)) (frames_at t q run i) (all_stand t code q run n settled reads owned r keeps i (omega arith)) (under_at i (omega arith))
        (r.steps i (omega arith)) (keeps i (omega arith)) (guards i (omega arith))

    one : (i : ℕ) → i < n → IsOpen (frames_at t q run i) → Spares entry slots (run i) (run (suc i))
    one i small =
        spared_by (run i) (run (suc i)) (frames_at t q run i) (all_stand t code q run n settled reads owned r keeps i (omega arith)) (under_at i (omega arith))
        (r.steps i small) (keeps i small) (guards i small)

    spared_to : (i : ℕ) → i ≤ n → IsOpen (frames_at t q run i) → Spares entry slots (run 0) (run i)
    spared_to zero small open_is o b k has j below = refl
    spared_to (suc i) small open_is o b k has j below =
        let before = open_before (run (suc i)) (frames_at t q run i) open_is in
        one i (omega arith) before o b k has j below ∙ spared_to i (omega arith) before o b k has j below

    -- up to the end of the frame of q, and the step that ends it
    pub spared_past : (i : ℕ) → i < n → IsOpen (frames_at t q run i) → Spares entry slots (run 0) (run (suc i))
    spared_past i small open_is o b k has j below = one i small open_is o b k has j below ∙ spared_to i (omega arith) open_is o b k has j below

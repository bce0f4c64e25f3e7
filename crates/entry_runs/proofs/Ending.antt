-- Steps beside those of the machine, and the end of a frame.
use Rattle.std.proofs.Common.{◌≡◌, ℕ, ◌^◌, ◌<◌, Bool, true, false, List, [], ◌∷◌, slice_index, Option, None, Some, refl, ap, sym, ◌∙◌, arith, subst}
use Rattle.elf_image.specs.declared.fetched.Fetched.{Fetched}
use Rattle.rv_step.specs.Harts.{Hart, IsHart, x}
use Rattle.entry_values.specs.declared.values.Value.{Value}
use Rattle.entry_values.specs.declared.values.Value.TheVariants.{Is, Any}
use Rattle.entry_values.specs.Values.{Means, plus}
use Rattle.entry_values.specs.declared.states.State.{State}
use Rattle.entry_values.specs.States.{value_at}
use Rattle.entry_values.specs.Transfers.{is_below}
use Rattle.opaque_words.specs.declared.rows.Row.{Row}
use Rattle.entry_values.specs.Opaque.{OpaqueStep, opaque_state}
use Rattle.entry_values.specs.declared.flow.Flow.{Flow}
use Rattle.entry_values.specs.declared.flow.Flow.TheVariants.{On, ByTable, CallTo, Foreign, Past, Return, TailOut, Leave, Stuck, Halt}
use Rattle.entry_tables.specs.Tables.{Table, flow_of, foreign, KeepsRegisters, KeepsConvention, IsClosed, IsSettled, Reads}
use Rattle.entry_values.specs.declared.values.Kind.TheVariants.{Opaque}
use Rattle.entry_runs.specs.Frames.{Frame, moved, ended}
use Rattle.entry_runs.specs.Premises.{Own, own_store, is_own_below, waiting_slots, AllSpared, MayReturn, KeepsSlots, own_at, ComesBack, KeepsBy}
use Rattle.entry_runs.specs.Theorems.{GoesBy, Restores, Ends}
use Rattle.entry_runs.proofs.Describing.{AreWords, Told, words_of_hart, less_told, slots_stay, plus_means}
use Rattle.entry_runs.proofs.Leaving.{blurred_told}
use Rattle.entry_runs.proofs.Executing.{Follows, GoesHome, plus_small}
use Rattle.entry_runs.proofs.Sparing.{own_changes, all_spared}
use Rattle.entry_runs.proofs.Standing.{Stands, AllStandWaiting, AllHigh, AllStand, placed_of, stay_waiting, was_slot, goes_on_behind, back_behind}
use Rattle.entry_runs.proofs.Following.{clear_of, next, follows}

same_word : (entry : List ℕ) (w q : ℕ) (v : Value) → Means entry v w → v ≡ Is q 0 → slice_index entry q < 2 ^ 64 → w ≡ slice_index entry q
same_word entry w q v means is fits =
    let e : Means entry (Is q 0) w = subst (λ (u : Value). Means entry u w) is means in
    omega arith

-- a point whose flow goes past an opaque instruction has that row
pub record IsOpaqueAt (t : Table) (f : Frame) (s : State) (row : Row) (next : ℕ) (u : State) : Type 0 where
  pub own : own_store t f ≡ own_at row.width (plus (value_at s row.base) row.imm)
  pub state : u ≡ opaque_state row f.at s

module _ (t : Table) (code : ℕ → Option Fetched) (settled : IsSettled t) (reads : Reads code t) (m n : Hart) where
  -- an opaque instruction. Its row is that of the point
  pub went_past : (f : Frame) (rest : List Frame) (stand : Stands t m f) → AllStandWaiting t m.memory f.procedure f.registers rest → AllHigh t (f ∷ rest)
      → (row : Row) (next : ℕ) (u : State) → IsOpaqueAt t f stand.state row next u → OpaqueStep row next m n → KeepsSlots t m n f rest
      → flow_of t f.procedure f.at ≡ Past row next u → AllStand t n (moved f n.pc ∷ rest)
  went_past f rest stand waiting high row next u is made keeps flow =
      let s : State = stand.state in
      let closed = subst (IsClosed t f.procedure f.at stand.state) flow (settled.closed f.procedure f.at stand.state stand.is) in
      let told : Told f.registers (opaque_state row f.at stand.state) n =
      blurred_told f.registers stand.state m n f.at row.width _ (plus (value_at stand.state row.base) row.imm) row.rd (Any f.at Opaque) made.value stand.words
      (words_of_hart m stand.hart) (settled.wide f.procedure f.at stand.state stand.is) stand.told (plus_small (value_at stand.state row.base) row.imm)
      (plus_means f.registers (value_at stand.state row.base) (x m row.base) row.imm (stand.told.described.registers row.base)) made.memory made.registers tt
      (λ none. keeps.own (is.own ∙ none) stand.state stand.is) in (
        record {
          hart = made.hart;
          at = refl;
          words = stand.words;
          state = closed.state;
          is = ap (t.row f.procedure) made.pc ∙ closed.is;
          told = less_told f.registers u closed.state n closed.less (subst (λ (v : State). Told f.registers v n) (sym is.state) told);
        },
        stay_waiting t m n f.procedure f.registers rest (by (own_store t f) refl) waiting,
        high,
      )
    where
      below : (own : Own) → own_store t f ≡ Some own → (b : Bool) → is_below own.offset own.width ≡ b → AllSpared t m n rest
      below own e false place_is = keeps.waiting (ap is_own_below e ∙ place_is)
      below own e true place_is =
          all_spared t f.registers own m n stand.words (own_changes f.registers stand.state m n row next own stand.told made (sym is.own ∙ e)) place_is
          (keeps.stack_below own e place_is) rest (placed_of t m.memory f.procedure f.registers rest waiting) high.0

      by : (o : Option Own) → own_store t f ≡ o → AllSpared t m n rest
      by None e = keeps.waiting (ap is_own_below e)
      by (Some own) e = below own e (is_below own.offset own.width) refl

  -- code that isn't known comes back
  pub came_back : (f : Frame) (rest : List Frame) (stand : Stands t m f) → AllStandWaiting t m.memory f.procedure f.registers rest → AllHigh t (f ∷ rest)
      → (next : ℕ) → IsHart n → ComesBack t next m n f rest → flow_of t f.procedure f.at ≡ Foreign next → AllStand t n (moved f n.pc ∷ rest)
  came_back f rest stand waiting high next hart comes flow =
      let row = subst (IsClosed t f.procedure f.at stand.state) flow (settled.closed f.procedure f.at stand.state stand.is) in (
        goes_on_behind t n f foreign stand.state next stand.words stand.is hart comes.pc (λ keeps. cc)
            (λ r keeps other. subst (λ (v : ℕ). Means f.registers (value_at stand.state r) v) (sym (comes.kept r keeps)) (stand.told.described.registers r))
            (λ o b k has. slots_stay f.registers (waiting_slots t f) m n comes.own o b k has (stand.told.described.slots o b k (was_slot t f stand.state stand.is o b k has)))
            (λ o b k has. stand.told.placed o b k (was_slot t f stand.state stand.is o b k has)) row,
        stay_waiting t m n f.procedure f.registers rest comes.waiting waiting,
        high,
      )

  -- the end of a frame
  pub end_frame : (f : Frame) (rest : List Frame) → AreWords f.registers → AllStandWaiting t m.memory f.procedure f.registers rest → AllHigh t rest
      → IsHart n → Restores t n f → AllSpared t m n rest → MayReturn t rest → AllStand t n (ended n.pc rest)
  end_frame f [] words waiting high hart restores spared may = tt
  end_frame f (g ∷ rest) words waiting high hart restores spared may =
      let w = waiting.0.waits in
      let call = subst (IsClosed t g.procedure g.at w.state) w.flow (settled.closed g.procedure g.at w.state w.is) in (
        back_behind t m n f g words hart restores waiting.0 spared.0 (call.1 restores.returns may),
        stay_waiting t m n g.procedure g.registers rest spared.1 waiting.1,
        high,
      )

  -- what the end of a frame leaves
  pub restored : (f : Frame) (rest : List Frame) → AllStand t m (f ∷ rest) → (flow : Flow) → flow_of t f.procedure f.at ≡ flow → Ends flow → GoesBy flow m n
      → KeepsBy flow t code m n f rest → Restores t n f
  restored f rest stands Return flow ends step keeps =
      let stand = stands.0 in
      let home : GoesHome f.registers m n =
      subst (Follows f.registers (next t code settled reads m n f rest stand stands.1 stands.2 step keeps.0 (clear_of t code settled reads m n f stands.0 _ flow tt)) stand.state m n) flow (follows t code settled reads m n f rest stand stands.1 stands.2 step keeps.0 (clear_of t code settled reads m n f stands.0 _ flow tt)) in
      let owed : KeepsRegisters (t.summary f.procedure) stand.state = subst (IsClosed t f.procedure f.at stand.state) flow (settled.closed f.procedure f.at stand.state stand.is) in
      record {
        home = home.pc;
        returns = owed.returns;
        kept = λ r keep.
            ap (λ (regs : List ℕ). slice_index regs r) home.registers
            ∙ same_word f.registers (x m r) r (value_at stand.state r) (stand.told.described.registers r) (owed.kept r keep) (stand.words.words r);
      }
  restored f rest stands TailOut flow ends hart out =
      let stand = stands.0 in
      let owed = subst (IsClosed t f.procedure f.at stand.state) flow (settled.closed f.procedure f.at stand.state stand.is) in
      record {
        home = out.pc;
        returns = owed.0.returns;
        kept = λ r keep.
            out.kept r (owed.0.kept r keep)
            ∙ same_word f.registers (x m r) r (value_at stand.state r) (stand.told.described.registers r) (owed.1.kept r keep) (stand.words.words r);
      }
  restored f rest stands Stuck flow ends hart out =
      let stand = stands.0 in
      let owed : KeepsConvention (t.summary f.procedure) = subst (IsClosed t f.procedure f.at stand.state) flow (settled.closed f.procedure f.at stand.state stand.is) in
      record { home = out.pc; returns = owed.returns; kept = λ r keep. out.kept r (owed.kept r keep) }
  restored f rest stands (On targets u) flow ends step keeps = absurd ends
  restored f rest stands (ByTable targets) flow ends step keeps = absurd ends
  restored f rest stands (CallTo q behind) flow ends step keeps = absurd ends
  restored f rest stands (Foreign behind) flow ends step keeps = absurd ends
  restored f rest stands (Past row behind u) flow ends step keeps = absurd ends
  restored f rest stands Leave flow ends step keeps = absurd ends
  restored f rest stands Halt flow ends step keeps = absurd ends

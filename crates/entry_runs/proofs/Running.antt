-- Runs are described, by induction on the run.
use Rattle.std.proofs.Common.{◌≡◌, inl, inr, ℕ, zero, suc, ◌<◌, ◌≤◌, List, [], ◌∷◌, Contains, Option, refl, ap, sym, ◌∙◌, arith, subst}
use Rattle.elf_image.specs.declared.fetched.Fetched.{Fetched}
use Rattle.rv_step.specs.Harts.{Hart}
use Rattle.rv_step.proofs.HartsKept.{step_keeps_hart}
use Rattle.entry_values.specs.declared.states.State.{State}
use Rattle.entry_values.specs.declared.flow.Flow.{Flow}
use Rattle.entry_values.specs.declared.flow.Flow.TheVariants.{On, ByTable, CallTo, Foreign, Past, Return, TailOut, Leave, Stuck, Halt}
use Rattle.entry_tables.specs.Tables.{Table, flow_by, flow_of, HasRow, EachOf, IsClosed, IsSettled, Reads}
use Rattle.entry_runs.specs.Frames.{Frame, turned_by, turned, frames_at}
use Rattle.entry_runs.specs.Premises.{own_by, Among, KeepsBy, KeepsAt}
use Rattle.entry_runs.specs.Theorems.{GoesBy, Goes, IsRunFrom, KeepsUpTo, AllWait, IsDescribed, Restores, Ends}
use Rattle.entry_runs.proofs.Executing.{Follows}
use Rattle.entry_runs.proofs.Standing.{AllStandWaiting, AllStand, opens}
use Rattle.entry_runs.proofs.Passing.{past_is}
use Rattle.entry_runs.proofs.Following.{clear_of, next, follows, spares, onward, called}
use Rattle.entry_runs.proofs.Ending.{went_past, came_back, end_frame, restored}

each_among : (P : ℕ → Type 0) (targets : List ℕ) (a : ℕ) → EachOf targets P → Among targets a → P a
each_among P [] a each among = absurd among
each_among P (b ∷ rest) a each (inl here) = subst P (sym here) each.0
each_among P (b ∷ rest) a each (inr later) = each_among P rest a each.1 later

module _ (t : Table) (code : ℕ → Option Fetched) (settled : IsSettled t) (reads : Reads code t) (m n : Hart) where
  step_by : (f : Frame) (rest : List Frame) → AllStand t m (f ∷ rest) → (flow : Flow) → flow_of t f.procedure f.at ≡ flow → GoesBy flow m n
      → KeepsBy flow t code m n f rest → AllStand t n (turned_by flow n f rest)
  step_by f rest stands (On targets u) flow step keeps =
      let to = subst (Follows f.registers (next t code settled reads m n f rest stands.0 stands.1 stands.2 step keeps (clear_of t code settled reads m n f stands.0 _ flow tt)) stands.0.state m n) flow (follows t code settled reads m n f rest stands.0 stands.1 stands.2 step keeps (clear_of t code settled reads m n f stands.0 _ flow tt)) in
      let each = subst (IsClosed t f.procedure f.at stands.0.state) flow (settled.closed f.procedure f.at stands.0.state stands.0.is) in
      onward t code settled reads m n f rest stands.0 stands.1 stands.2 step keeps (clear_of t code settled reads m n f stands.0 _ flow tt) u to.1 (each_among (λ b. HasRow t f.procedure b u) targets n.pc each to.0)
  step_by f rest stands (ByTable targets) flow step keeps =
      let to = subst (Follows f.registers (next t code settled reads m n f rest stands.0 stands.1 stands.2 step keeps.0 (clear_of t code settled reads m n f stands.0 _ flow tt)) stands.0.state m n) flow (follows t code settled reads m n f rest stands.0 stands.1 stands.2 step keeps.0 (clear_of t code settled reads m n f stands.0 _ flow tt)) in
      let each = subst (IsClosed t f.procedure f.at stands.0.state) flow (settled.closed f.procedure f.at stands.0.state stands.0.is) in
      onward t code settled reads m n f rest stands.0 stands.1 stands.2 step keeps.0 (clear_of t code settled reads m n f stands.0 _ flow tt) stands.0.state to (each_among (λ b. HasRow t f.procedure b stands.0.state) targets n.pc each keeps.1)
  step_by f rest stands (CallTo q behind) flow step keeps =
      let to = subst (Follows f.registers (next t code settled reads m n f rest stands.0 stands.1 stands.2 step keeps.0 (clear_of t code settled reads m n f stands.0 _ flow tt)) stands.0.state m n) flow (follows t code settled reads m n f rest stands.0 stands.1 stands.2 step keeps.0 (clear_of t code settled reads m n f stands.0 _ flow tt)) in
      let owed = subst (IsClosed t f.procedure f.at stands.0.state) flow (settled.closed f.procedure f.at stands.0.state stands.0.is) in
      called t code settled reads m n f rest stands.0 stands.1 stands.2 step keeps.0 (clear_of t code settled reads m n f stands.0 _ flow tt) q behind flow to.0 to.1 owed.0 keeps.1
  step_by f rest stands (Past row behind u) flow made keeps =
      let here = past_is f.at stands.0.state (t.marked f.procedure f.at) (t.line f.procedure f.at) (t.opaque f.at) (t.has_code f.at) (t.guess f.at) row behind u
      (sym (ap (λ (o : Option State). flow_by o (t.marked f.procedure f.at) (t.line f.procedure f.at) (t.opaque f.at) (t.has_code f.at) (t.guess f.at) f.at) stands.0.is) ∙ flow) in
      went_past t code settled reads m n f rest stands.0 stands.1 stands.2 row behind u
      (record { own = ap (λ (o : Option State). own_by o (t.line f.procedure f.at) (t.opaque f.at)) stands.0.is ∙ here.own; state = here.state }) made keeps flow
  step_by f rest stands (Foreign behind) flow hart comes = came_back t code settled reads m n f rest stands.0 stands.1 stands.2 behind hart comes flow
  step_by f rest stands Return flow step keeps =
      end_frame t code settled reads m n f rest stands.0.words stands.1 stands.2.1 (step_keeps_hart m n stands.0.hart step) (restored t code settled reads m n f rest stands Return flow tt step keeps)
      (spares t code settled reads m n f rest stands.0 stands.1 stands.2 step keeps.0 (clear_of t code settled reads m n f stands.0 _ flow tt)) keeps.1
  step_by f rest stands TailOut flow hart out =
      end_frame t code settled reads m n f rest stands.0.words stands.1 stands.2.1 hart (restored t code settled reads m n f rest stands TailOut flow tt hart out) out.waiting out.returns
  step_by f rest stands Stuck flow hart out =
      end_frame t code settled reads m n f rest stands.0.words stands.1 stands.2.1 hart (restored t code settled reads m n f rest stands Stuck flow tt hart out) out.waiting out.returns
  step_by f rest stands Leave flow step keeps = absurd keeps
  step_by f rest stands Halt flow step keeps =
      absurd (subst (Follows f.registers (next t code settled reads m n f rest stands.0 stands.1 stands.2 step keeps (clear_of t code settled reads m n f stands.0 _ flow tt)) stands.0.state m n) flow (follows t code settled reads m n f rest stands.0 stands.1 stands.2 step keeps (clear_of t code settled reads m n f stands.0 _ flow tt)))

  pub one_step : (frames : List Frame) → AllStand t m frames → Goes t m n frames → KeepsAt t code m n frames → AllStand t n (turned t n frames)
  one_step [] stand goes keeps = tt
  one_step (f ∷ rest) stand goes keeps = step_by f rest stand (flow_of t f.procedure f.at) refl goes keeps

-- what stands is described
waits_of : (t : Table) (memory : ℕ → ℕ) (q : ℕ) (regs : List ℕ) (rest : List Frame) → AllStandWaiting t memory q regs rest → AllWait t memory q regs rest
waits_of t memory q regs [] stand = tt
waits_of t memory q regs (g ∷ rest) stand = (stand.0.waits, waits_of t memory g.procedure g.registers rest stand.1)

described_of : (t : Table) (m : Hart) (frames : List Frame) → AllStand t m frames → IsDescribed t m frames
described_of t m [] stand = tt
described_of t m (f ∷ rest) stand = (
  record {
    at = stand.0.at;
    state = stand.0.state;
    is = ap (t.row f.procedure) (sym stand.0.at) ∙ stand.0.is;
    described = stand.0.told.described;
  },
  waits_of t m.memory f.procedure f.registers rest stand.1,
)

module _ (t : Table) (code : ℕ → Option Fetched) (p : ℕ) (run : ℕ → Hart) (n : ℕ) (settled : IsSettled t) (reads : Reads code t)
    (owned : Contains t.procedures p) (r : IsRunFrom t p run n) (keeps : KeepsUpTo t code p run n) where
  pub all_stand : (i : ℕ) → i ≤ n → AllStand t (run i) (frames_at t p run i)
  all_stand zero low = (opens t p (run 0) (settled.entries p owned) r.entry r.hart, tt, (tt, tt))
  all_stand (suc i) low =
      one_step t code settled reads (run i) (run (suc i)) (frames_at t p run i) (all_stand i (omega arith)) (r.steps i (omega arith)) (keeps i (omega arith))

  pub described : (i : ℕ) → i ≤ n → IsDescribed t (run i) (frames_at t p run i)
  described i low = described_of t (run i) (frames_at t p run i) (all_stand i low)

  pub restores : (i : ℕ) → i < n → (f : Frame) (rest : List Frame) → frames_at t p run i ≡ f ∷ rest → Ends (flow_of t f.procedure f.at) → Restores t (run (suc i)) f
  restores i low f rest are ends =
      restored t code settled reads (run i) (run (suc i)) f rest (subst (AllStand t (run i)) are (all_stand i (omega arith)))
      (flow_of t f.procedure f.at) refl ends (subst (Goes t (run i) (run (suc i))) are (r.steps i low))
      (subst (KeepsAt t code (run i) (run (suc i))) are (keeps i low))

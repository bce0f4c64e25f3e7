-- A step of the machine at a point that the table follows.
use Rattle.std.proofs.Common.{◌≡◌, ℕ, ◌+◌, ◌%◌, ◌^◌, Bool, true, false, List, ◌∷◌, Contains, Option, None, Some, refl, ap, sym, ◌∙◌, arith, subst}
use Rattle.elf_image.specs.declared.fetched.Fetched.{Fetched}
use Rattle.rv_step.specs.Harts.{Hart, IsHart, fetched}
use Rattle.rv_step.specs.Steps.{Executes, Step, even}
use Rattle.rv_step.proofs.HartsKept.{step_keeps_hart}
use Rattle.entry_values.specs.declared.states.State.{State}
use Rattle.entry_values.specs.Transfers.{is_below}
use Rattle.entry_values.specs.declared.flow.Flow.{Flow}
use Rattle.entry_values.specs.declared.flow.Flow.TheVariants.{CallTo}
use Rattle.entry_values.specs.Flows.{flow_under}
use Rattle.entry_tables.specs.declared.rows.Line.{Line}
use Rattle.entry_tables.specs.Tables.{Table, next_of, flow_by, flow_of, HasRow, IsSettled, Reads}
use Rattle.entry_runs.specs.Frames.{Frame, begun, moved}
use Rattle.entry_runs.specs.Premises.{Own, own_of, own_by, own_store, is_own_below, AllSpared, StackBy, StackStays, KeepsStep}
use Rattle.entry_runs.proofs.Describing.{Told, words_of_hart, less_told}
use Rattle.entry_runs.proofs.Executing.{Follows, Enters, executed_follows}
use Rattle.entry_runs.proofs.Sparing.{own_stores, all_spared}
use Rattle.entry_runs.proofs.Standing.{Stands, AllStandWaiting, AllHigh, AllStand, placed_of, stay_waiting, opens, waits_at_call, high_at_call}
use Rattle.entry_runs.proofs.Fetching.{even_behind}
use Rattle.entry_runs.proofs.Passing.{IsFollowed, clear_by}

-- the line at which the last frame is, and what the machine does there
pub record IsMade (t : Table) (f : Frame) (s : State) (m n : Hart) : Type 0 where
  pub line : Line
  pub flow_is : flow_of t f.procedure f.at ≡ flow_under line.instr (t.guess f.at) f.at (next_of f.at line) s
  pub own_is : own_store t f ≡ own_of line.instr s
  pub made : Executes line.instr (next_of f.at line) m n
  pub link_even : even (next_of f.at line) ≡ next_of f.at line

module _ (t : Table) (code : ℕ → Option Fetched) (settled : IsSettled t) (reads : Reads code t) (m n : Hart) where
  pub clear_of : (f : Frame) (stand : Stands t m f) (flow : Flow) → flow_of t f.procedure f.at ≡ flow → IsFollowed flow
      → t.marked f.procedure f.at ≡ false
  clear_of f stand flow e is =
      clear_by stand.state (t.marked f.procedure f.at) (t.line f.procedure f.at) (t.opaque f.at) (t.has_code f.at) (t.guess f.at) f.at flow
      (sym (ap (λ (o : Option State). flow_by o (t.marked f.procedure f.at) (t.line f.procedure f.at) (t.opaque f.at) (t.has_code f.at) (t.guess f.at) f.at) stand.is) ∙ e) is

  made_at : (f : Frame) (stand : Stands t m f) → Step m n → fetched m ≡ code m.pc → t.marked f.procedure f.at ≡ false → IsMade t f stand.state m n
  made_at f stand step stays clear =
      let line : Line = record { instr = step.instr; length = step.at.length } in
      let here : t.line f.procedure f.at ≡ Some line =
      reads.rows f.procedure f.at stand.state stand.is step.at step.instr (ap code stand.at ∙ (sym stays ∙ step.is_at.fetches)) step.is_at.means in
      record {
        line = line;
        flow_is = ap (λ (row : Option State). flow_by row (t.marked f.procedure f.at) (t.line f.procedure f.at) (t.opaque f.at) (t.has_code f.at) (t.guess f.at) f.at) stand.is
            ∙ ap (λ (b : Bool). flow_by (Some stand.state) b (t.line f.procedure f.at) (t.opaque f.at) (t.has_code f.at) (t.guess f.at) f.at) clear
            ∙ ap (λ (l : Option Line). flow_by (Some stand.state) false l (t.opaque f.at) (t.has_code f.at) (t.guess f.at) f.at) here;
        own_is = ap (λ (row : Option State). own_by row (t.line f.procedure f.at) (t.opaque f.at)) stand.is ∙ ap (λ (l : Option Line). own_by (Some stand.state) l (t.opaque f.at)) here;
        made = subst (λ (a : ℕ). Executes step.instr ((a + step.at.length) % 2 ^ 64) m n) (sym stand.at) step.executes;
        link_even = subst (λ (a : ℕ). even ((a + step.at.length) % 2 ^ 64) ≡ (a + step.at.length) % 2 ^ 64) (sym stand.at)
            (even_behind m step.at stand.hart step.is_at.fetches);
      }

  -- a step of the machine
  module _ (f : Frame) (rest : List Frame) (stand : Stands t m f) (waiting : AllStandWaiting t m.memory f.procedure f.registers rest) (high : AllHigh t (f ∷ rest))
      (step : Step m n) (keeps : KeepsStep t code m n f rest) (clear : t.marked f.procedure f.at ≡ false) where
    abbrev pub s : State
    s = stand.state

    pub made : IsMade t f stand.state m n
    made = made_at f stand step keeps.code_stays clear

    abbrev pub next : ℕ
    next = next_of f.at made.line

    pub spares : AllSpared t m n rest
    spares = by (own_store t f) refl
      where
        below : (own : Own) → own_store t f ≡ Some own → (b : Bool) → is_below own.offset own.width ≡ b → AllSpared t m n rest
        below own e false is = keeps.slots.waiting (ap is_own_below e ∙ is)
        below own e true is =
            all_spared t f.registers own m n stand.words (own_stores f.registers s m n next own stand.told made.line.instr made.made (sym made.own_is ∙ e)) is
            (keeps.slots.stack_below own e is) rest (placed_of t m.memory f.procedure f.registers rest waiting) high.0

        by : (o : Option Own) → own_store t f ≡ o → AllSpared t m n rest
        by None e = keeps.slots.waiting (ap is_own_below e)
        by (Some own) e = below own e (is_below own.offset own.width) refl

    pub follows : Follows f.registers next s m n (flow_of t f.procedure f.at)
    follows =
        subst (Follows f.registers next s m n) (sym made.flow_is)
        (subst (λ (a : ℕ). Follows f.registers next s m n (flow_under made.line.instr (t.guess f.at) a next s)) (sym stand.at)
        (executed_follows f.registers s m n next stand.words (words_of_hart m stand.hart) (settled.wide f.procedure f.at s stand.is) (settled.words f.procedure f.at s stand.is) stand.told (omega arith)
        (t.guess f.at) made.line.instr made.made (λ none. keeps.slots.own (made.own_is ∙ none) s stand.is)
        (λ own some below. keeps.slots.stack_below own (made.own_is ∙ some) below)))

    still : AllStandWaiting t n.memory f.procedure f.registers rest
    still = stay_waiting t m n f.procedure f.registers rest spares waiting

    hart_after : IsHart n
    hart_after = step_keeps_hart m n stand.hart step

    pub onward : (u : State) → Told f.registers u n → HasRow t f.procedure n.pc u → AllStand t n (moved f n.pc ∷ rest)
    onward u told row = (
      record {
        hart = hart_after;
        at = refl;
        words = stand.words;
        state = row.state;
        is = row.is;
        told = less_told f.registers u row.state n row.less told;
      },
      still,
      high,
    )

    pub called : (q behind : ℕ) → flow_of t f.procedure f.at ≡ CallTo q behind → Enters q next s m n → behind ≡ next → Contains t.procedures q
        → StackStays t f rest m → AllStand t n (begun q n ∷ f ∷ rest)
    called q behind flow enters same owned stack =
        let to_next = flow ∙ ap (CallTo q) same in (
          opens t q n (settled.entries q owned) enters.pc hart_after,
          (waits_at_call t m n f s stand.words stand.is stand.told (words_of_hart m stand.hart) q next to_next enters made.link_even, still),
          (
            high_at_call t m n f s stand.words stand.is stand.told (words_of_hart m stand.hart) q next to_next enters made.link_even rest
                (settled.words f.procedure f.at s stand.is 2) high.0 (subst (λ (row : Option State). StackBy t f rest m row) stand.is stack),
            high,
          ),
        )

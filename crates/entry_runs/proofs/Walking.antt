-- A way's own states describe the machine.
use Rattle.std.proofs.Common.{◌≡◌, ◌≢◌, ℕ, suc, ◌+◌, ◌%◌, ◌^◌, Bool, true, false, List, [], Contains, slice_index, Option, None, Some, refl, ap, sym, ◌∙◌, arith, subst, inl, inr}
use Rattle.std.proofs.lemmas.Bool.{cases_lt}
use Rattle.std.proofs.lemmas.List.{get_or_past, get_or-set_same}
use Rattle.std.proofs.lemmas.List.FromFn.{get_or-map-range_with_len, length-map-range_with_len}
use Rattle.elf_image.specs.declared.fetched.Fetched.{Fetched}
use Rattle.rv_step.specs.Harts.{Hart, IsHart, x, fetched}
use Rattle.rv_step.specs.Steps.{Executes, Step, even}
use Rattle.rv_step.proofs.HartsKept.{step_keeps_hart}
use Rattle.entry_values.specs.declared.values.Value.TheVariants.{Is, Any}
use Rattle.entry_values.specs.Values.{Means, FitsWord, plus, unknown}
use Rattle.entry_values.specs.declared.states.State.{State}
use Rattle.entry_values.specs.States.{values_of, start, value_at, place}
use Rattle.entry_values.specs.Transfers.{is_below}
use Rattle.std.specs.Prelude.{if◌then◌else◌}
use Rattle.opaque_words.specs.declared.rows.Row.{Row}
use Rattle.entry_values.specs.Opaque.{opaque_state}
use Rattle.entry_values.specs.declared.flow.Flow.{Flow}
use Rattle.entry_values.specs.declared.flow.Flow.TheVariants.{On, ByTable, CallTo, Past, Halt}
use Rattle.entry_values.specs.Flows.{flow_under}
use Rattle.entry_tables.specs.Tables.{Summary, Table, IsSettled, next_of, flow_by, kept_slots, value_returned, foreign, returned, Reads}
use Rattle.entry_tables.specs.declared.rows.Line.{Line}
use Rattle.entry_values.specs.declared.values.Kind.TheVariants.{Opaque}
use Rattle.entry_runs.specs.Premises.{Own, own_of, own_by, Spares, IsPlaced, LiesAbove}
use Rattle.entry_runs.specs.Theorems.{Restores}
use Rattle.entry_runs.specs.Walks.{flow_at, IsState, Guards, KeepsWalk, frame_of, MadeCall, Along, begins, steps, jumps, calls, past, passes, IsThere}
use Rattle.entry_runs.proofs.Describing.{AreWords, AllPlaced, Told, words_of_hart, slots_stay, plus_means}
use Rattle.entry_runs.proofs.Leaving.{blurred_told}
use Rattle.entry_runs.proofs.Executing.{Follows, Enters, plus_small, executed_follows}
use Rattle.entry_runs.proofs.Sparing.{kept_was}
use Rattle.entry_runs.proofs.Standing.{written_other, start_told, table_means, returned_means}
use Rattle.entry_runs.proofs.Fetching.{even_behind}
use Rattle.entry_runs.proofs.Running.{restores}
use Rattle.entry_runs.proofs.Passing.{past_is}
use Rattle.entry_runs.proofs.Guarding.{IsOpen, spared_past}

pub record GoesAlong (entry : List ℕ) (a : ℕ) (s : State) (m : Hart) : Type 0 where
  pub hart : IsHart m
  pub pc : m.pc ≡ a
  pub words : AreWords entry
  pub is : IsState s
  pub told : Told entry s m

-- a flow that a step of the machine goes by
abbrev IsStepped : Flow → Type 0
IsStepped (On targets u) = Unit {0}
IsStepped (ByTable targets) = Unit {0}
IsStepped (CallTo q next) = Unit {0}
IsStepped flow = ⊥

-- comes of a line that isn't marked
record HasLine (marked : Bool) (l : Option Line) : Type 0 where
  pub line : Line
  pub there : l ≡ Some line
  pub clear : marked ≡ false

lined_by : (s : State) (marked : Bool) (l : Option Line) (some : Option Row) (has : Bool) (guess : Option (List ℕ)) (a : ℕ)
    → IsStepped (flow_by (Some s) marked l some has guess a) → HasLine marked l
lined_by s true l some has guess a is = absurd is
lined_by s false (Some line) some has guess a is = record { line = line; there = refl; clear = refl }
lined_by s false None None true guess a is = absurd is
lined_by s false None None false guess a is = absurd is
lined_by s false None (Some row) has guess a is = by row.halts is
  where
    by : (h : Bool) → IsStepped (if h then Halt else Past row ((a + row.length) % 2 ^ 64) (opaque_state row a s)) → HasLine false None
    by true is = absurd is
    by false is = absurd is

module _ (t : Table) (code : ℕ → Option Fetched) (settled : IsSettled t) (reads : Reads code t) (entry : List ℕ) (p : ℕ) where
  start_is : IsState start
  start_is = record {
    wide = length-map-range_with_len (λ r. Is r 0) 0 32;
    words = λ r. elim (cases_lt r 32) [
      | inl within ↦ subst FitsWord (sym (get_or-map-range_with_len (λ k. Is k 0) 0 32 r r unknown within (omega arith))) (omega arith)
      | inr beyond ↦
          subst FitsWord (sym (get_or_past (values_of (λ k. Is k 0)) r unknown (let n = length-map-range_with_len (λ k. Is k 0) 0 32 in omega arith))) tt
    ];
  }

  record IsMadeAt (a : ℕ) (s : State) (m n : Hart) : Type 0 where
    pub line : Line
    pub flow_is : flow_at t p a s ≡ flow_under line.instr (t.guess a) a (next_of a line) s
    pub own_is : own_by (Some s) (t.line p a) (t.opaque a) ≡ own_of line.instr s
    pub made : Executes line.instr (next_of a line) m n
    pub link_even : even (next_of a line) ≡ next_of a line

  made_at : (a : ℕ) (s : State) (m n : Hart) → IsHart m → m.pc ≡ a → Step m n → fetched m ≡ code m.pc → IsStepped (flow_at t p a s) → IsMadeAt a s m n
  made_at a s m n hart pc step stays is =
      let line : Line = record { instr = step.instr; length = step.at.length } in
      let has = lined_by s (t.marked p a) (t.line p a) (t.opaque a) (t.has_code a) (t.guess a) a is in
      let here : t.line p a ≡ Some line =
      has.there ∙ ap Some (reads.lines p a has.line has.there step.at step.instr (ap code (sym pc) ∙ (sym stays ∙ step.is_at.fetches)) step.is_at.means) in
      record {
        line = line;
        flow_is = ap (λ (b : Bool). flow_by (Some s) b (t.line p a) (t.opaque a) (t.has_code a) (t.guess a) a) has.clear
            ∙ ap (λ (l : Option Line). flow_by (Some s) false l (t.opaque a) (t.has_code a) (t.guess a) a) here;
        own_is = ap (λ (l : Option Line). own_by (Some s) l (t.opaque a)) here;
        made = subst (λ (b : ℕ). Executes step.instr ((b + step.at.length) % 2 ^ 64) m n) pc step.executes;
        link_even = subst (λ (b : ℕ). even ((b + step.at.length) % 2 ^ 64) ≡ (b + step.at.length) % 2 ^ 64) pc (even_behind m step.at hart step.is_at.fetches);
      }

  followed : (a : ℕ) (s : State) (m n : Hart) (g : GoesAlong entry a s m) (made : IsMadeAt a s m n)
      → (own_by (Some s) (t.line p a) (t.opaque a) ≡ None → Spares entry s.slots m n)
      → ((own : Own) → own_by (Some s) (t.line p a) (t.opaque a) ≡ Some own → is_below own.offset own.width ≡ true → IsPlaced entry own.offset)
      → Follows entry (next_of a made.line) s m n (flow_at t p a s)
  followed a s m n g made own stack_below =
      subst (Follows entry (next_of a made.line) s m n) (sym made.flow_is)
      (subst (λ (b : ℕ). Follows entry (next_of a made.line) s m n (flow_under made.line.instr (t.guess a) b (next_of a made.line) s)) g.pc
      (executed_follows entry s m n (next_of a made.line) g.words (words_of_hart m g.hart) g.is.wide g.is.words g.told (omega arith)
      (t.guess a) made.line.instr made.made (λ none. own (made.own_is ∙ none)) (λ place_is some below. stack_below place_is (made.own_is ∙ some) below)))

  behind : (a : ℕ) (s u : State) (m n : Hart) (k : Summary) (next : ℕ) → GoesAlong entry a s m → IsHart n → n.pc ≡ next → (k.keeps 1 ≡ true → x n 1 ≡ next)
      → ((r : ℕ) → k.keeps r ≡ true → r ≢ 1 → x n r ≡ x m r) → Spares entry (kept_slots (value_at s 2) s.slots) m n
      → u ≡ returned k s a next → IsState u → GoesAlong entry next u n
  behind a s u m n k next g hart pc link kept spared is state = record {
    hart = hart;
    pc = pc;
    words = g.words;
    is = state;
    told = subst (λ (v : State). Told entry v n) (sym is) (record {
      described = record {
        registers = table_means entry n.registers (value_returned k.keeps s a next) (kept_slots (value_at s 2) s.slots)
            (returned_means entry k s a next n g.words hart (let small = hart.pc in omega arith) link
            (λ r keeps other. subst (λ (w : ℕ). Means entry (value_at s r) w) (sym (kept r keeps other)) (g.told.described.registers r)));
        slots = λ o b j has.
            slots_stay entry (kept_slots (value_at s 2) s.slots) m n spared o b j has
            (g.told.described.slots o b j (kept_was (value_at s 2) s.slots o (Is b j) has));
      };
      placed = λ o b j has. g.told.placed o b j (kept_was (value_at s 2) s.slots o (Is b j) has);
    });
  }

  entered : (a : ℕ) (s : State) (m n : Hart) (q next : ℕ) → GoesAlong entry a s m → Step m n → fetched m ≡ code m.pc → KeepsWalk t entry p s a m n → flow_at t p a s ≡ CallTo q next
      → Enters q next s m n × (even next ≡ next)
  entered a s m n q next g step stays keeps flow =
      let made = made_at a s m n g.hart g.pc step stays (subst IsStepped (sym flow) tt) in
      let to = subst (Follows entry (next_of a made.line) s m n) flow (followed a s m n g made keeps.own keeps.stack_below) in (
        subst (λ (b : ℕ). Enters q b s m n) (sym to.1) to.0,
        subst (λ (b : ℕ). even b ≡ b) (sym to.1) made.link_even,
      )

  called : (a : ℕ) (s u : State) (m n : Hart) (q next : ℕ) → GoesAlong entry a s m → Contains t.procedures q → (call : MadeCall t code q m n)
      → fetched m ≡ code m.pc → KeepsWalk t entry p s a m (call.run 0) → flow_at t p a s ≡ CallTo q next → LiesAbove (x m 2) entry (kept_slots (value_at s 2) s.slots)
      → Guards t entry (kept_slots (value_at s 2) s.slots) q call.run (suc call.count)
      → u ≡ returned (t.summary q) s a next → IsState u → GoesAlong entry next u n
  called a s u m n q next g owned call stays keeps flow low guards is state =
      let to = entered a s m (call.run 0) q next g call.into stays keeps flow in
      let enters = to.0 in
      let slots = kept_slots (value_at s 2) s.slots in
      let placed : AllPlaced entry slots = λ o b k has. g.told.placed o b k (kept_was (value_at s 2) s.slots o (Is b k) has) in
      let sp : x (call.run 0) 2 ≡ x m 2 =
      ap (λ (regs : List ℕ). slice_index regs 2) enters.registers ∙ written_other m.registers 1 next 2 (λ same. omega arith) in
      let during : Spares entry slots (call.run 0) (call.run (suc call.count)) =
      spared_past t code settled reads entry slots g.words placed q call.run (suc call.count) owned call.is_run call.keeps guards
      (subst (λ (b : ℕ). LiesAbove b entry slots) (sym sp) low) call.count (omega arith) (subst IsOpen (sym call.last) tt) in
      let spared : Spares entry slots m n =
      subst (λ (h : Hart). Spares entry slots m h) call.to
      (λ o b k has j below. during o b k has j below ∙ enters.memory ((place entry o + j) % 2 ^ 64) (omega arith)) in
      let hart : IsHart n = subst IsHart call.to call.hart in
      let end : Restores t n (frame_of q (call.run 0).registers call.at) =
      subst (λ (h : Hart). Restores t h (frame_of q (call.run 0).registers call.at)) call.to
      (restores t code q call.run (suc call.count) settled reads owned call.is_run call.keeps call.count (omega arith)
      (frame_of q (call.run 0).registers call.at) [] call.last call.ends) in
      let link : slice_index (call.run 0).registers 1 ≡ next =
      ap (λ (regs : List ℕ). slice_index regs 1) enters.registers ∙ get_or-set_same m.registers 1 next 0 (let c = (words_of_hart m g.hart).count in omega arith) in
      behind a s u m n (t.summary q) next g hart (end.home ∙ ap even link ∙ to.1) (λ kept. end.kept 1 kept ∙ link)
      (λ r kept other. end.kept r kept ∙ ap (λ (regs : List ℕ). slice_index regs r) enters.registers ∙ written_other m.registers 1 next r other) spared is state

  along_goes : (a : ℕ) (s : State) (m : Hart) → Along t code entry p a s m → GoesAlong entry a s m
  along_goes a s m (begins m0 hart same pc) =
      let words : AreWords entry = subst AreWords same (words_of_hart m hart) in
      record {
        hart = hart;
        pc = pc;
        words = words;
        is = start_is;
        told = subst (λ (regs : List ℕ). Told regs start m) same (start_told m (words_of_hart m hart));
      }
  along_goes a s m (steps b v l n targets u before step stays keeps flow is) =
      let g = along_goes b v l before in
      let made = made_at b v l n g.hart g.pc step stays (subst IsStepped (sym flow) tt) in
      let to = subst (Follows entry (next_of b made.line) v l n) flow (followed b v l n g made keeps.own keeps.stack_below) in
      record { hart = step_keeps_hart l n g.hart step; pc = refl; words = g.words; is = is; told = to.1 }
  along_goes a s m (jumps b v l n targets before step stays keeps flow) =
      let g = along_goes b v l before in
      let made = made_at b v l n g.hart g.pc step stays (subst IsStepped (sym flow) tt) in
      let to = subst (Follows entry (next_of b made.line) v l n) flow (followed b v l n g made keeps.own keeps.stack_below) in
      record { hart = step_keeps_hart l n g.hart step; pc = refl; words = g.words; is = g.is; told = to }
  along_goes a s m (calls b v l n q next u before owned call stays keeps flow low guards is state) =
      called b v u l n q next (along_goes b v l before) owned call stays keeps flow low guards is state
  along_goes a s m (past b v l n row next u before made keeps flow is) =
      let g = along_goes b v l before in
      let here = past_is b v (t.marked p b) (t.line p b) (t.opaque b) (t.has_code b) (t.guess b) row next u flow in
      record {
        hart = made.hart;
        pc = made.pc;
        words = g.words;
        is = is;
        told = subst (λ (w : State). Told entry w n) (sym here.state)
            (blurred_told entry v l n b row.width _ (plus (value_at v row.base) row.imm) row.rd (Any b Opaque) made.value g.words (words_of_hart l g.hart) g.is.wide g.told
            (plus_small (value_at v row.base) row.imm) (plus_means entry (value_at v row.base) (x l row.base) row.imm (g.told.described.registers row.base))
            made.memory made.registers tt (λ none. keeps.own (here.own ∙ none)));
      }
  along_goes a s m (passes b v l n next u before flow hart pc kept spared is state) =
      behind b v u l n foreign next (along_goes b v l before) hart pc (λ one. cc) (λ r keeps other. kept r keeps) spared is state

  pub there : (a : ℕ) (s : State) (m : Hart) → Along t code entry p a s m → IsThere entry a s m
  there a s m along = let g = along_goes a s m along in record { pc = g.pc; described = g.told.described }

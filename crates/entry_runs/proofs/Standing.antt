-- The machine, its frames and the table at a moment.
use Rattle.std.proofs.Common.{◌≡◌, ◌≤◌, ◌≢◌, ◌⊎◌, inl, inr, ℕ, ◌+◌, ◌%◌, ◌^◌, ◌<◌, ◌==◌, Bool, true, false, List, [], ◌∷◌, slice_index, slice_set, Some, refl, ap, sym, ◌∙◌, arith, subst}
use Rattle.std.specs.Prelude.{if◌then◌else◌}
use Rattle.std.proofs.lemmas.Bool.{cases_lt, eqb-true}
use Rattle.std.proofs.lemmas.List.{get_or_past, get_or-set_same, get_or-set_other}
use Rattle.std.proofs.lemmas.List.FromFn.{get_or-map-range_with_len, length-map-range_with_len}
use Rattle.elf_image.specs.Fetches.{read}
use Rattle.rv_step.specs.Harts.{Hart, IsHart, x}
use Rattle.rv_step.specs.Effects.{written}
use Rattle.rv_step.specs.Steps.{even}
use Rattle.entry_values.specs.declared.values.Value.{Value}
use Rattle.entry_values.specs.declared.values.Value.TheVariants.{Is, Any}
use Rattle.entry_values.specs.Values.{Means, FitsWord, unknown}
use Rattle.entry_values.specs.declared.states.Slot.{Slot}
use Rattle.entry_values.specs.declared.states.State.{State}
use Rattle.entry_values.specs.States.{value_at, values_of, start, HasSlot, place}
use Rattle.entry_values.specs.declared.flow.Flow.TheVariants.{CallTo}
use Rattle.entry_tables.specs.Tables.{Summary, Table, flow_of, kept_slots, value_returned, returned, HasRow}
use Rattle.entry_values.specs.declared.values.Kind.TheVariants.{Callee}
use Rattle.entry_runs.specs.Frames.{Frame, begun, moved}
use Rattle.entry_runs.specs.Premises.{waiting_slots, slots_left, Spares, IsPlaced, LiesAbove, AllSpared, AllAbove, OneOf, StackAt}
use Rattle.entry_runs.specs.Theorems.{Waits, Restores}
use Rattle.entry_runs.proofs.Describing.{AreWords, AllPlaced, Told, words_of_hart, less_told, slots_stay}
use Rattle.entry_runs.proofs.Executing.{Enters}
use Rattle.entry_runs.proofs.Sparing.{AllStandPlaced, kept_was, lower, stack_low, slots_above}

pub record Stands (t : Table) (m : Hart) (f : Frame) : Type 0 where
  pub hart : IsHart m
  pub at : f.at ≡ m.pc
  pub words : AreWords f.registers
  pub state : State
  pub is : t.row f.procedure f.at ≡ Some state
  pub told : Told f.registers state m

pub record StandsWaiting (t : Table) (memory : ℕ → ℕ) (q : ℕ) (regs : List ℕ) (g : Frame) : Type 0 where
  pub waits : Waits t memory q regs g
  pub words : AreWords g.registers
  pub placed : AllPlaced g.registers (waiting_slots t g)

abbrev pub AllStandWaiting : Table → (ℕ → ℕ) → ℕ → List ℕ → List Frame → Type 0
AllStandWaiting t memory q regs [] = Unit {0}
AllStandWaiting t memory q regs (g ∷ rest) = StandsWaiting t memory q regs g × AllStandWaiting t memory g.procedure g.registers rest

-- the slots of frames that wait lie at or above sp at the entry of each frame opened later
abbrev pub AllHigh : Table → List Frame → Type 0
AllHigh t [] = Unit {0}
AllHigh t (f ∷ rest) = AllAbove t (slice_index f.registers 2) rest × AllHigh t rest

abbrev pub AllStand : Table → Hart → List Frame → Type 0
AllStand t m [] = Unit {0}
AllStand t m (f ∷ rest) = Stands t m f × AllStandWaiting t m.memory f.procedure f.registers rest × AllHigh t (f ∷ rest)

pub placed_of : (t : Table) (memory : ℕ → ℕ) (q : ℕ) (regs : List ℕ) (rest : List Frame) → AllStandWaiting t memory q regs rest → AllStandPlaced t rest
placed_of t memory q regs [] stand = tt
placed_of t memory q regs (g ∷ rest) stand = ((stand.0.words, stand.0.placed), placed_of t memory g.procedure g.registers rest stand.1)

pub stay_waiting : (t : Table) (m n : Hart) (q : ℕ) (regs : List ℕ) (rest : List Frame) → AllSpared t m n rest → AllStandWaiting t m.memory q regs rest
    → AllStandWaiting t n.memory q regs rest
stay_waiting t m n q regs [] spared stand = tt
stay_waiting t m n q regs (g ∷ rest) spared stand = (
  (let w = stand.0.waits in
      record {
        waits = record {
          state = w.state;
          is = w.is;
          next = w.next;
          flow = w.flow;
          link = w.link;
          link_even = w.link_even;
          registers = w.registers;
          slots = λ o b k has. slots_stay g.registers (waiting_slots t g) m n spared.0 o b k has (w.slots o b k has);
        };
        words = stand.0.words;
        placed = stand.0.placed;
      }),
  stay_waiting t m n g.procedure g.registers rest spared.1 stand.1,
)

-- registers with one written
pub written_other : (regs : List ℕ) (r w q : ℕ) → q ≢ r → slice_index (written regs r w) q ≡ slice_index regs q
written_other regs r w q other = by (r == 0)
  where
    by : (b : Bool) → slice_index (if b then regs else slice_set regs r w) q ≡ slice_index regs q
    by true = refl
    by false = get_or-set_other regs r q w 0 other

-- values by a function
pub table_means : (entry regs : List ℕ) (f : ℕ → Value) (slots : List Slot) → ((r : ℕ) → r < 32 → Means entry (f r) (slice_index regs r))
    → (r : ℕ) → Means entry (value_at (record { values = values_of f; slots = slots }) r) (slice_index regs r)
table_means entry regs f slots means r = elim (cases_lt r 32) [
  | inl within ↦
      subst (λ (v : Value). Means entry v (slice_index regs r))
      (sym (get_or-map-range_with_len f 0 32 r r unknown within (omega arith))) (means r within)
  | inr past ↦
      subst (λ (v : Value). Means entry v (slice_index regs r))
      (sym (get_or_past (values_of f) r unknown (let n = length-map-range_with_len f 0 32 in omega arith))) tt
]

-- at an entry, whatever the registers
pub start_told : (m : Hart) → AreWords m.registers → Told m.registers start m
start_told m words = record {
  described = record {
    registers = table_means m.registers m.registers (λ r. Is r 0) [] (λ r within. let e = words.words r in omega arith);
    slots = λ o b k has. absurd has;
  };
  placed = λ o b k has. absurd has;
}

pub opens : (t : Table) (q : ℕ) (n : Hart) → HasRow t q q start → n.pc ≡ q → IsHart n → Stands t n (begun q n)
opens t q n row pc hart = record {
  hart = hart;
  at = refl;
  words = words_of_hart n hart;
  state = row.state;
  is = ap (t.row q) pc ∙ row.is;
  told = less_told n.registers start row.state n row.less (start_told n (words_of_hart n hart));
}

-- the slots that a call leaves are slots of the state
pub was_slot : (t : Table) (f : Frame) (s : State) → t.row f.procedure f.at ≡ Some s → (o b k : ℕ) → HasSlot (waiting_slots t f) o (Is b k) → HasSlot s.slots o (Is b k)
was_slot t f s is o b k has = kept_was (value_at s 2) s.slots o (Is b k) (subst (λ (slots : List Slot). HasSlot slots o (Is b k)) (ap slots_left is) has)

-- a call
module _ (t : Table) (m n : Hart) (f : Frame) (s : State) (words : AreWords f.registers) (is : t.row f.procedure f.at ≡ Some s)
    (told : Told f.registers s m) (here : AreWords m.registers) (q next : ℕ)
    (flow : flow_of t f.procedure f.at ≡ CallTo q next) (enters : Enters q next s m n)
    (link_even : even next ≡ next) where
  left_is : waiting_slots t f ≡ kept_slots (value_at s 2) s.slots
  left_is = ap slots_left is

  other : (r : ℕ) → r ≢ 1 → slice_index n.registers r ≡ x m r
  other r ne = ap (λ (regs : List ℕ). slice_index regs r) enters.registers ∙ written_other m.registers 1 next r ne

  pub waits_at_call : StandsWaiting t n.memory q n.registers f
  waits_at_call = record {
    waits = record {
      state = s;
      is = is;
      next = next;
      flow = flow;
      link = ap (λ (regs : List ℕ). slice_index regs 1) enters.registers ∙ get_or-set_same m.registers 1 next 0 (let c = here.count in omega arith);
      link_even = link_even;
      registers = λ r ne. subst (λ (w : ℕ). Means f.registers (value_at s r) w) (sym (other r ne)) (told.described.registers r);
      slots = λ o b k has.
          slots_stay f.registers (waiting_slots t f) m n (λ p c d there j below. enters.memory ((place f.registers p + j) % 2 ^ 64) (omega arith)) o b k has
          (told.described.slots o b k (was_slot t f s is o b k has));
    };
    words = words;
    placed = λ o b k has. told.placed o b k (was_slot t f s is o b k has);
  }

  pub high_at_call : (rest : List Frame) → FitsWord (value_at s 2) → AllAbove t (slice_index f.registers 2) rest
      → StackAt f.registers (value_at s 2) (AllAbove t (x m 2) (f ∷ rest)) → AllAbove t (slice_index n.registers 2) (f ∷ rest)
  high_at_call rest fits high stack =
      subst (λ (sp : ℕ). AllAbove t sp (f ∷ rest)) (sym (other 2 (λ e. omega arith)))
      (by (value_at s 2) refl fits stack (told.described.registers 2))
    where
      by : (v : Value) → value_at s 2 ≡ v → FitsWord v → StackAt f.registers v (AllAbove t (x m 2) (f ∷ rest))
          → Means f.registers v (x m 2) → AllAbove t (x m 2) (f ∷ rest)
      by (Any a kind) e fit stays means = stays
      by (Is b k) e fit stays means = known (b == 2) refl stays
        where
          known : (two : Bool) → (b == 2) ≡ two → OneOf two ((k ≢ 0 → (2 ^ 63 ≤ k) × IsPlaced f.registers k) ⊎ AllAbove t (x m 2) (f ∷ rest)) (AllAbove t (x m 2) (f ∷ rest)) → AllAbove t (x m 2) (f ∷ rest)
          known false is_two given = given
          known true is_two (inr given) = given
          known true is_two (inl given) =
              let base = eqb-true b 2 is_two in
              let sp : x m 2 ≡ (slice_index f.registers 2 + k) % 2 ^ 64 = means ∙ ap (λ (c : ℕ). (slice_index f.registers c + k) % 2 ^ 64) base in
              let kept : waiting_slots t f ≡ kept_slots (Is 2 k) s.slots = left_is ∙ ap (λ (v : Value). kept_slots v s.slots) (e ∙ ap (λ (c : ℕ). Is c k) base) in (
                subst (λ (slots : List Slot). LiesAbove (x m 2) f.registers slots) (sym kept) (slots_above f.registers k (x m 2) s.slots words fit given sp told.placed),
                lower t (slice_index f.registers 2) (x m 2) (stack_low f.registers k (x m 2) words fit given sp) rest high,
              )

-- values behind a call
pub returned_means : (entry : List ℕ) (k : Summary) (s : State) (a next : ℕ) (n : Hart) → AreWords entry → IsHart n → next < 2 ^ 64
    → (k.keeps 1 ≡ true → x n 1 ≡ next) → ((r : ℕ) → k.keeps r ≡ true → r ≢ 1 → Means entry (value_at s r) (x n r))
    → (r : ℕ) → r < 32 → Means entry (value_returned k.keeps s a next r) (x n r)
returned_means entry k s a next n words hart fits link kept r within = by (r == 0) refl (k.keeps r) refl (r == 1) refl
  where
    by : (z : Bool) → (r == 0) ≡ z → (c : Bool) → k.keeps r ≡ c → (l : Bool) → (r == 1) ≡ l
        → Means entry (if z then Is 0 0 else if c then (if l then Is 0 next else value_at s r) else Any a Callee) (x n r)
    by true e c h l i =
        let same : x n r ≡ 0 = ap (x n) (eqb-true r 0 e) ∙ hart.zero_is in
        let zero_word = words.zero_is in omega arith
    by false e false h l i = tt
    by false e true h true i =
        let one = eqb-true r 1 i in
        let same : x n r ≡ next = ap (x n) one ∙ link (ap k.keeps (sym one) ∙ h) in
        let zero_word = words.zero_is in omega (arith, fits)
    by false e true h false i = kept r h (λ same. let f : (1 == 1) ≡ false = ap (λ (c : ℕ). c == 1) (sym same) ∙ i in cc)

-- back behind a call, whoever was called
module _ (t : Table) (n : Hart) (g : Frame) (k : Summary) (s : State) (next : ℕ) (words : AreWords g.registers) (is : t.row g.procedure g.at ≡ Some s)
    (hart : IsHart n) (pc : n.pc ≡ next) (link : k.keeps 1 ≡ true → x n 1 ≡ next)
    (kept : (r : ℕ) → k.keeps r ≡ true → r ≢ 1 → Means g.registers (value_at s r) (x n r))
    (slots : (o b j : ℕ) → HasSlot (waiting_slots t g) o (Is b j) → Means g.registers (Is b j) (read 8 n.memory (place g.registers o)))
    (placed : AllPlaced g.registers (waiting_slots t g)) (row : HasRow t g.procedure next (returned k s g.at next)) where
  behind : (r : ℕ) → r < 32 → Means g.registers (value_returned k.keeps s g.at next r) (x n r)
  behind = returned_means g.registers k s g.at next n words hart (let small = hart.pc in omega arith) link kept

  left_by : waiting_slots t g ≡ kept_slots (value_at s 2) s.slots
  left_by = ap slots_left is

  behind_told : Told g.registers (returned k s g.at next) n
  behind_told = record {
    described = record {
      registers = table_means g.registers n.registers (value_returned k.keeps s g.at next) (kept_slots (value_at s 2) s.slots) behind;
      slots = λ o b j has. slots o b j (subst (λ (all : List Slot). HasSlot all o (Is b j)) (sym left_by) has);
    };
    placed = λ o b j has. placed o b j (subst (λ (all : List Slot). HasSlot all o (Is b j)) (sym left_by) has);
  }

  pub goes_on_behind : Stands t n (moved g n.pc)
  goes_on_behind = record {
    hart = hart;
    at = refl;
    words = words;
    state = row.state;
    is = ap (t.row g.procedure) pc ∙ row.is;
    told = less_told g.registers (returned k s g.at next) row.state n row.less behind_told;
  }

-- the end of a frame, and the frame before it behind its call
pub back_behind : (t : Table) (m n : Hart) (f g : Frame) → AreWords f.registers → IsHart n → Restores t n f
    → (stand : StandsWaiting t m.memory f.procedure f.registers g) → Spares g.registers (waiting_slots t g) m n
    → HasRow t g.procedure stand.waits.next (returned (t.summary f.procedure) stand.waits.state g.at stand.waits.next)
    → Stands t n (moved g n.pc)
back_behind t m n f g words hart restores stand spared row =
    let w = stand.waits in
    let pc : n.pc ≡ w.next = restores.home ∙ ap even w.link ∙ w.link_even in
    goes_on_behind t n g (t.summary f.procedure) w.state w.next stand.words w.is hart pc
    (λ keeps. restores.kept 1 keeps ∙ w.link)
    (λ r keeps other. subst (λ (v : ℕ). Means g.registers (value_at w.state r) v) (sym (restores.kept r keeps)) (w.registers r other))
    (λ o b k has. slots_stay g.registers (waiting_slots t g) m n spared o b k has (w.slots o b k has)) stand.placed row

-- The slots of frames that wait, behind a step.
use Rattle.std.proofs.Common.{◌≡◌, ◌≢◌, inl, inr, ℕ, ◌+◌, ◌%◌, ◌^◌, ◌<◌, ◌≤◌, ◌==◌, pos, ◌+ℤ◌, Bool, true, false, List, [], ◌∷◌, slice_index, None, Some, refl, ap, sym, ◌∙◌, arith, subst, ◌&&◌, not, nat_le}
use Rattle.std.specs.Prelude.{if◌then◌else◌}
use Rattle.std.proofs.lemmas.Bool.{eqb-true, leb-true}
use Rattle.rv_instr.specs.declared.Instr.{Instr}
use Rattle.rv_instr.specs.declared.Instr.TheVariants.{Store}
use Rattle.rv_step.specs.Words.{word}
use Rattle.rv_step.specs.Harts.{Hart, x}
use Rattle.rv_step.specs.Steps.{Executes, store_width}
use Rattle.entry_values.specs.declared.values.Value.{Value}
use Rattle.entry_values.specs.declared.values.Value.TheVariants.{Is, Any}
use Rattle.entry_values.specs.Values.{Means, plus}
use Rattle.entry_values.specs.declared.states.Slot.{Slot}
use Rattle.entry_values.specs.declared.states.State.{State}
use Rattle.entry_values.specs.States.{value_at, HasSlot, place}
use Rattle.entry_values.specs.Transfers.{is_below}
use Rattle.opaque_words.specs.declared.rows.Row.{Row}
use Rattle.entry_values.specs.Opaque.{Outside, OpaqueStep}
use Rattle.entry_tables.specs.Tables.{Table, not_below, kept_slots}
use Rattle.entry_runs.specs.Frames.{Frame}
use Rattle.entry_runs.specs.Premises.{Own, own_at, own_of, waiting_slots, Spares, IsPlaced, LiesAbove, AllSpared, AllAbove}
use Rattle.entry_runs.proofs.Bytes.{byte_spared}
use Rattle.entry_runs.proofs.Describing.{AreWords, AllPlaced, Told, plus_means}
use Rattle.entry_runs.proofs.Leaving.{both}

at_is : (w : ℕ) (v : Value) (own : Own) → own_at w v ≡ Some own → (v ≡ Is 2 own.offset) × (w ≡ own.width)
at_is w (Any a kind) own e = cc
at_is w (Is b o) own e = by (b == 2) refl e
  where
    by : (t : Bool) → (b == 2) ≡ t → (if t then (let found : Own = record { offset = o; width = w } in Some found) else None) ≡ Some own
        → (Is b o ≡ Is 2 own.offset) × (w ≡ own.width)
    by false f is = cc
    by true f is =
        let mine : Own = record { offset = o; width = w } in
        let same : mine ≡ own = (let g : Some mine ≡ Some own = is in cc) in
        let two = eqb-true b 2 f in
        (ap (λ (c : ℕ). Is c o) two ∙ ap (λ (q : Own). Is 2 q.offset) same, ap (λ (q : Own). q.width) same)

pub own_stores : (entry : List ℕ) (s : State) (m n : Hart) (next : ℕ) (own : Own) → Told entry s m → (instr : Instr) → Executes instr next m n
    → own_of instr s ≡ Some own → Outside own.width (place entry own.offset) m.memory n.memory
own_stores entry s m n next own told (Store op rs1 rs2 imm) made e =
    let at = at_is (store_width op) (plus (value_at s rs1) imm) own e in
    let means : Means entry (plus (value_at s rs1) imm) (word (pos (x m rs1) +ℤ imm)) = plus_means entry (value_at s rs1) (x m rs1) imm (told.described.registers rs1) in
    let here : word (pos (x m rs1) +ℤ imm) ≡ place entry own.offset = subst (λ (v : Value). Means entry v (word (pos (x m rs1) +ℤ imm))) at.0 means in
    subst (λ (w : ℕ). Outside w (place entry own.offset) m.memory n.memory) at.1
    (subst (λ (a : ℕ). Outside (store_width op) a m.memory n.memory) here
    (byte_spared m.memory n.memory (store_width op) (word (pos (x m rs1) +ℤ imm)) (x m rs2) made.memory))
own_stores entry s m n next own told instr made e = cc

pub own_changes : (entry : List ℕ) (s : State) (m n : Hart) (row : Row) (next : ℕ) (own : Own) → Told entry s m → OpaqueStep row next m n
    → own_at row.width (plus (value_at s row.base) row.imm) ≡ Some own → Outside own.width (place entry own.offset) m.memory n.memory
own_changes entry s m n row next own told made e =
    let at = at_is row.width (plus (value_at s row.base) row.imm) own e in
    let means : Means entry (plus (value_at s row.base) row.imm) (word (pos (x m row.base) +ℤ row.imm)) =
    plus_means entry (value_at s row.base) (x m row.base) row.imm (told.described.registers row.base) in
    let here : word (pos (x m row.base) +ℤ row.imm) ≡ place entry own.offset =
    subst (λ (v : Value). Means entry v (word (pos (x m row.base) +ℤ row.imm))) at.0 means in
    subst (λ (w : ℕ). Outside w (place entry own.offset) m.memory n.memory) at.1
    (subst (λ (b : ℕ). Outside row.width b m.memory n.memory) here made.memory)

-- every slot of a frame that waits is placed
abbrev pub AllStandPlaced : Table → List Frame → Type 0
AllStandPlaced t [] = Unit {0}
AllStandPlaced t (g ∷ rest) = (AreWords g.registers × AllPlaced g.registers (waiting_slots t g)) × AllStandPlaced t rest

-- a store below the entry's sp, with room there, and slots at or above it
pub store_spares : (entry : List ℕ) (own : Own) (m n : Hart) → AreWords entry → Outside own.width (place entry own.offset) m.memory n.memory → is_below own.offset own.width ≡ true
    → IsPlaced entry own.offset → (mine : List ℕ) (slots : List Slot) → AreWords mine → AllPlaced mine slots
    → LiesAbove (slice_index entry 2) mine slots → Spares mine slots m n
store_spares entry own m n words made below room mine slots others placed above o b k has j few =
    let sides = both (nat_le (2 ^ 63) own.offset) (nat_le (own.offset + own.width) (2 ^ 64)) below in
    let low = leb-true (2 ^ 63) own.offset sides.0 in
    let high = leb-true (own.offset + own.width) (2 ^ 64) sides.1 in
    let base = words.words 2 in
    let base_mine = others.words 2 in
    let at = placed o b k has in
    let one = at.low in
    let two = at.room in
    let over = above o b k has in
    made ((place mine o + j) % 2 ^ 64) (omega arith) (omega arith)

pub all_spared : (t : Table) (entry : List ℕ) (own : Own) (m n : Hart) → AreWords entry → Outside own.width (place entry own.offset) m.memory n.memory → is_below own.offset own.width ≡ true
    → IsPlaced entry own.offset → (rest : List Frame) → AllStandPlaced t rest → AllAbove t (slice_index entry 2) rest → AllSpared t m n rest
all_spared t entry own m n words made below room [] placed above = tt
all_spared t entry own m n words made below room (g ∷ rest) placed above = (
  store_spares entry own m n words made below room g.registers (waiting_slots t g) placed.0.0 placed.0.1 above.0,
  all_spared t entry own m n words made below room rest placed.1 above.1,
)

-- the slots that a call leaves
pub record IsKept (k : ℕ) (slots : List Slot) (o : ℕ) (v : Value) : Type 0 where
  pub was : HasSlot slots o v
  pub some : k ≢ 0
  pub above : k ≤ o

kept_more : (k : ℕ) (slot : Slot) (slots : List Slot) (o : ℕ) (v : Value) → IsKept k slots o v → IsKept k (slot ∷ slots) o v
kept_more k slot slots o v kept = record { was = inr kept.was; some = kept.some; above = kept.above }

some_zero : (k : ℕ) → not (k == 0) ≡ true → k ≢ 0
some_zero k e same = let f : not (0 == 0) ≡ true = ap (λ (c : ℕ). not (c == 0)) (sym same) ∙ e in cc

pub not_below_kept : (k : ℕ) (slots : List Slot) (o : ℕ) (v : Value) → HasSlot (not_below k slots) o v → IsKept k slots o v
not_below_kept k [] o v has = absurd has
not_below_kept k (slot ∷ rest) o v has = by (not_below_kept k rest o v) (nat_le (2 ^ 63) k && nat_le k slot.offset) refl has
  where
    by : (HasSlot (not_below k rest) o v → IsKept k rest o v) → (t : Bool) → (nat_le (2 ^ 63) k && nat_le k slot.offset) ≡ t
        → HasSlot (if t then slot ∷ not_below k rest else not_below k rest) o v → IsKept k (slot ∷ rest) o v
    by more false e there = kept_more k slot rest o v (more there)
    by more true e (inr later) = kept_more k slot rest o v (more later)
    by more true e (inl here) =
        let parts = both (nat_le (2 ^ 63) k) (nat_le k slot.offset) e in
        record {
          was = inl here;
          some = (λ same. let f = leb-true (2 ^ 63) k parts.0 in omega arith);
          above = let f = leb-true k slot.offset parts.1 in let g = here.0 in omega arith;
        }

pub kept_was : (w : Value) (slots : List Slot) (o : ℕ) (v : Value) → HasSlot (kept_slots w slots) o v → HasSlot slots o v
kept_was (Any a kind) slots o v has = has
kept_was (Is b k) slots o v has = by (b == 2) has
  where
    by : (t : Bool) → HasSlot (if t then not_below k slots else slots) o v → HasSlot slots o v
    by true there = (not_below_kept k slots o v there).was
    by false there = there

-- sp at a call, where it is known
pub lower : (t : Table) (a b : ℕ) → b ≤ a → (rest : List Frame) → AllAbove t a rest → AllAbove t b rest
lower t a b low [] above = tt
lower t a b low (g ∷ rest) above = (λ o c k has. (let f = above.0 o c k has in omega arith), lower t a b low rest above.1)

pub stack_low : (entry : List ℕ) (k sp : ℕ) → AreWords entry → k < 2 ^ 64 → (k ≢ 0 → (2 ^ 63 ≤ k) × IsPlaced entry k)
    → sp ≡ (slice_index entry 2 + k) % 2 ^ 64 → sp ≤ slice_index entry 2
stack_low entry k sp words small room is = by (k == 0) refl
  where
    base : slice_index entry 2 < 2 ^ 64
    base = words.words 2

    by : (z : Bool) → (k == 0) ≡ z → sp ≤ slice_index entry 2
    by true e = let g = eqb-true k 0 e in omega arith
    by false e =
        let both_are = room (λ same. let f : (0 == 0) ≡ false = ap (λ (c : ℕ). c == 0) (sym same) ∙ e in cc) in
        let high = both_are.0 in
        let placed = both_are.1 in
        omega arith

pub slots_above : (entry : List ℕ) (k sp : ℕ) (slots : List Slot) → AreWords entry → k < 2 ^ 64 → (k ≢ 0 → (2 ^ 63 ≤ k) × IsPlaced entry k)
    → sp ≡ (slice_index entry 2 + k) % 2 ^ 64 → AllPlaced entry slots → LiesAbove sp entry (not_below k slots)
slots_above entry k sp slots words small room is placed o b j has =
    let kept = not_below_kept k slots o (Is b j) has in
    let at = placed o b j kept.was in
    let fits = (room kept.some).1 in
    let base = words.words 2 in
    let over = kept.above in
    let one = at.low in
    let two = at.room in
    omega arith

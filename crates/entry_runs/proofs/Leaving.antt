-- What a state says of slots: a load, and the slots that a change of memory leaves.
use Rattle.std.proofs.Common.{◌≡◌, inl, inr, ℕ, ◌+◌, ◌%◌, ◌^◌, ◌<◌, ◌==◌, Bool, true, false, List, [], ◌∷◌, length, slice_index, Option, None, Some, refl, ap, sym, ◌∙◌, arith, subst, ◌&&◌, nat_lt}
use Rattle.std.specs.Prelude.{if◌then◌else◌}
use Rattle.std.proofs.lemmas.Bool.{eqb-true, or_parts, ltb-false}
use Rattle.elf_image.specs.Fetches.{read}
use Rattle.rv_step.specs.Harts.{Hart}
use Rattle.rv_step.specs.Effects.{written, distance}
use Rattle.entry_values.specs.declared.values.Value.{Value}
use Rattle.entry_values.specs.declared.values.Value.TheVariants.{Is, Any}
use Rattle.entry_values.specs.Values.{Means, FitsWord}
use Rattle.entry_values.specs.declared.states.Slot.{Slot}
use Rattle.entry_values.specs.declared.states.State.{State}
use Rattle.entry_values.specs.States.{value_at, put, HasSlot, place, Describes}
use Rattle.entry_values.specs.Transfers.{overlaps, slot_at, cleared, blurred, found_value, loaded_value}
use Rattle.entry_values.specs.Opaque.{Outside, blurred_state}
use Rattle.entry_values.specs.declared.values.Kind.TheVariants.{Loaded, Overwritten}
use Rattle.entry_runs.specs.Premises.{Own, own_at, Spares}
use Rattle.entry_runs.proofs.Bytes.{word_apart}
use Rattle.entry_runs.proofs.Describing.{AreWords, Told, put_means, written_told}

-- a load from a slot
slot_found : (slots : List Slot) (o : ℕ) (v : Value) → slot_at slots o ≡ Some v → HasSlot slots o v
slot_found [] o v e = cc
slot_found (slot ∷ rest) o v e = by (slot_found rest o v) (slot.offset == o) refl e
  where
    by : (slot_at rest o ≡ Some v → HasSlot rest o v) → (b : Bool) → (slot.offset == o) ≡ b
        → (if b then Some slot.value else slot_at rest o) ≡ Some v → HasSlot (slot ∷ rest) o v
    by later true test is = inl (eqb-true slot.offset o test, (let f : slot.value ≡ v = cc in f))
    by later false test is = inr (later is)

pub loaded_means : (entry : List ℕ) (pc : ℕ) (s : State) (m : Hart) (v : Value) (a : ℕ) → Describes entry s m → Means entry v a
    → Means entry (loaded_value pc s v) (read 8 m.memory a)
loaded_means entry pc s m (Any c kind) a described means = tt
loaded_means entry pc s m (Is b o) a described means = by (b == 2) refl
  where
    found : (v : Option Value) → slot_at s.slots o ≡ v → b ≡ 2 → Means entry (found_value pc v) (read 8 m.memory a)
    found None e two = tt
    found (Some (Any c kind)) e two = tt
    found (Some (Is d k)) e two =
        let here : a ≡ place entry o = means ∙ ap (λ (c : ℕ). (slice_index entry c + o) % 2 ^ 64) two in
        ap (read 8 m.memory) here ∙ described.slots o d k (slot_found s.slots o (Is d k) e)

    by : (t : Bool) → (b == 2) ≡ t → Means entry (if t then found_value pc (slot_at s.slots o) else Any pc Loaded) (read 8 m.memory a)
    by true e = found (slot_at s.slots o) refl (eqb-true b 2 e)
    by false e = tt

-- slots that a store leaves
pub record IsLeft (w o : ℕ) (slots : List Slot) (p b k : ℕ) : Type 0 where
  pub was : HasSlot slots p (Is b k)
  pub apart : overlaps w o p ≡ false

left_more : (w o : ℕ) (slot : Slot) (slots : List Slot) (p b k : ℕ) → IsLeft w o slots p b k → IsLeft w o (slot ∷ slots) p b k
left_more w o slot slots p b k left = record { was = inr left.was; apart = left.apart }

pub cleared_left : (w o : ℕ) (slots : List Slot) (p b k : ℕ) → HasSlot (cleared w o slots) p (Is b k) → IsLeft w o slots p b k
cleared_left w o [] p b k has = absurd has
cleared_left w o (slot ∷ rest) p b k has = by (cleared_left w o rest p b k) (overlaps w o slot.offset) refl has
  where
    by : (HasSlot (cleared w o rest) p (Is b k) → IsLeft w o rest p b k) → (t : Bool) → overlaps w o slot.offset ≡ t
        → HasSlot (if t then cleared w o rest else slot ∷ cleared w o rest) p (Is b k) → IsLeft w o (slot ∷ rest) p b k
    by more true e there = left_more w o slot rest p b k (more there)
    by more false e (inl here) = record { was = inl here; apart = ap (overlaps w o) (sym here.0) ∙ e }
    by more false e (inr later) = left_more w o slot rest p b k (more later)

pub blurred_left : (pc w o : ℕ) (slots : List Slot) (p b k : ℕ) → HasSlot (blurred pc w o slots) p (Is b k) → IsLeft w o slots p b k
blurred_left pc w o [] p b k has = absurd has
blurred_left pc w o (slot ∷ rest) p b k has = by (blurred_left pc w o rest p b k) (overlaps w o slot.offset) refl has
  where
    by : (HasSlot (blurred pc w o rest) p (Is b k) → IsLeft w o rest p b k) → (t : Bool) → overlaps w o slot.offset ≡ t
        → HasSlot ((if t then record { offset = slot.offset; value = Any pc Overwritten } else slot) ∷ blurred pc w o rest) p (Is b k)
        → IsLeft w o (slot ∷ rest) p b k
    by more true e (inl here) = let f : Any pc Overwritten ≡ Is b k = here.1 in cc
    by more true e (inr later) = left_more w o slot rest p b k (more later)
    by more false e (inl here) = record { was = inl here; apart = ap (overlaps w o) (sym here.0) ∙ e }
    by more false e (inr later) = left_more w o slot rest p b k (more later)

pub both : (a b : Bool) → (a && b) ≡ true → (a ≡ true) × (b ≡ true)
both true b e = (refl, e)
both false b e = cc

abbrev pub with_slots : State → List Slot → State
with_slots s slots = record { values = s.values; slots = slots }

abbrev pub own_is : ℕ → ℕ → Own
own_is o w = record { offset = o; width = w }

-- slots that lie apart from what may change
pub left_stays : (entry : List ℕ) (s : State) (m n : Hart) (w o : ℕ) → Told entry s m → o < 2 ^ 64 → slice_index entry 2 < 2 ^ 64
    → Outside w (place entry o) m.memory n.memory → (p b k : ℕ) → IsLeft w o s.slots p b k → Means entry (Is b k) (read 8 n.memory (place entry p))
left_stays entry s m n w o told small base outside p b k left =
    let at = told.placed p b k left.was in
    let parts = or_parts (nat_lt (distance o p) w) (nat_lt (distance p o) 8) left.apart in
    let far = ltb-false (distance o p) w parts.0 in
    let near = ltb-false (distance p o) 8 parts.1 in
    let low = at.low in
    let one : distance (place entry o) (place entry p) ≡ distance o p = omega arith in
    let two : distance (place entry p) (place entry o) ≡ distance p o = omega arith in
    word_apart m.memory n.memory w (place entry o) (place entry p) (omega arith) (omega arith) outside (omega arith) (omega arith)
    ∙ told.described.slots p b k left.was

-- what may change is at a known place of the own frame
pub blurred_told : (entry : List ℕ) (s : State) (m n : Hart) (pc w a : ℕ) (at : Value) (rd : ℕ) (v : Value) (value : ℕ) → AreWords entry → AreWords m.registers
    → length s.values ≡ 32 → Told entry s m → FitsWord at → Means entry at a → Outside w a m.memory n.memory
    → n.registers ≡ written m.registers rd value → Means entry v value → (own_at w at ≡ None → Spares entry s.slots m n)
    → Told entry (put (blurred_state pc w at s) rd v) n
blurred_told entry s m n pc w a (Any c kind) rd v value words regs wide told small where_is outside registers new spared =
    written_told entry s m n rd v value wide regs told new registers (spared refl)
blurred_told entry s m n pc w a (Is b o) rd v value words regs wide told small where_is outside registers new spared = by (b == 2) refl spared
  where
    here : b ≡ 2 → a ≡ place entry o
    here two = where_is ∙ ap (λ (c : ℕ). (slice_index entry c + o) % 2 ^ 64) two

    by : (t : Bool) → (b == 2) ≡ t → ((if t then Some (own_is o w) else None) ≡ None → Spares entry s.slots m n)
        → Told entry (put (if t then with_slots s (blurred pc w o s.slots) else s) rd v) n
    by false e spares = written_told entry s m n rd v value wide regs told new registers (spares refl)
    by true e spares =
        let outside_here : Outside w (place entry o) m.memory n.memory = subst (λ (q : ℕ). Outside w q m.memory n.memory) (here (eqb-true b 2 e)) outside in
        record {
          described = record {
            registers = λ r.
                subst (λ (all : List ℕ). Means entry (value_at (put s rd v) r) (slice_index all r)) (sym registers)
                (put_means entry s m.registers rd v value wide regs.count told.described.registers new r);
            slots = λ p c k has. left_stays entry s m n w o told small (words.words 2) outside_here p c k (blurred_left pc w o s.slots p c k has);
          };
          placed = λ p c k has. told.placed p c k (blurred_left pc w o s.slots p c k has).was;
        }

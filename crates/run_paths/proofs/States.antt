-- States of activations, position by position.
use Rattle.std.proofs.Common.{◌≡◌, ℕ, ◌^◌, ◌<◌, Bool, true, false, List, [], Contains, slice_get, slice_index, Option, None, Some, refl, ap, sym, ◌∙◌, arith, if◌then◌else◌, ◌==◌, ◌||◌, length}
use Rattle.std.specs.Option.{option_map_or}
use Rattle.std.proofs.lemmas.Bool.{eqb-true, ne_eqb}
use Rattle.std.proofs.lemmas.List.FromFn.{get_or-map-range_with_len}
use Rattle.std.proofs.lemmas.Option.{slice_get_within}
use Rattle.elf_image.specs.Fetches.{read}
use Rattle.elf_image.specs.declared.image.Image.{Image}
use Rattle.word_rows.specs.Words.{word}
use Rattle.word_rows.specs.Rows.{IsState}
use Rattle.row_modules.specs.Positions.{has}
use Rattle.map_modules.proofs.Entries.{same_vector, get_or-vector, IsRow-vector}
use Rattle.map_modules.proofs.Sums.{word-word}
use Rattle.report_text.specs.declared.names.Name.{Name}
use Rattle.report_text.specs.declared.names.Name.TheVariants.{Register, Slot}
use Rattle.rv_step.specs.Harts.{Hart}
use Rattle.affine_lift.specs.Lifting.{is_slot_of, is_tracked_register}
use Rattle.run_paths.specs.Lifts.{Lift, IsLiftOf, registers, slots}
use Rattle.run_paths.specs.Activations.{Activation, slot_address, word_of, state_of, start_of}
use Rattle.run_paths.specs.Discipline.{KeepsSlots}
use Rattle.run_paths.specs.Follows.{slot_words}
use Rattle.run_paths.specs.Maps.{opened, returned}
use Rattle.run_paths.proofs.Bytes.{read_same}
use Rattle.run_paths.proofs.Lifted.{has_register, has_slot}

-- the registers, each a word
pub record AreWords (regs : List ℕ) : Type 0 where
  pub count : length regs ≡ 32
  pub zero_is : slice_index regs 0 ≡ 0
  pub words : (r : ℕ) → slice_index regs r < 2 ^ 64

-- the word of what stands at a position
abbrev pub name_word : Activation → List ℕ → (ℕ → ℕ) → Option Name → ℕ
name_word a regs memory o = option_map_or (word_of a regs memory) o 0

pub state_there : (lift : Lift) (a : Activation) (regs : List ℕ) (memory : ℕ → ℕ) (k : ℕ) → k < 16
    → slice_index (state_of lift a regs memory) k ≡ word (name_word a regs memory (slice_get lift.names k))
state_there lift a regs memory k below =
    get_or-vector _ k (omega arith)
    ∙ ap (λ (b : Bool). word (if b then 1 else name_word a regs memory (slice_get lift.names k))) (ne_eqb k 16 (λ e. omega arith))

pub state_constant : (lift : Lift) (a : Activation) (regs : List ℕ) (memory : ℕ → ℕ) → slice_index (state_of lift a regs memory) 16 ≡ 1
state_constant lift a regs memory = get_or-vector _ 16 (omega arith)

pub IsState-state_of : (lift : Lift) (a : Activation) (regs : List ℕ) (memory : ℕ → ℕ) → IsState (state_of lift a regs memory)
IsState-state_of lift a regs memory = record { row = IsRow-vector _; constant = state_constant lift a regs memory }

pub slot_small : (a : Activation) (below : ℕ) → slot_address a below < 2 ^ 64
slot_small a below = omega arith

-- two states of activations that agree at each name
pub same_state : (lift : Lift) (a b : Activation) (r s : List ℕ) (m n : ℕ → ℕ)
    → ((k : ℕ) (name : Name) → slice_get lift.names k ≡ Some name → word (word_of a r m name) ≡ word (word_of b s n name))
    → state_of lift a r m ≡ state_of lift b s n
same_state lift a b r s m n same = same_vector _ _ (λ k h. by k (k == 16) (slice_get lift.names k) refl)
  where
    by : (k : ℕ) (t : Bool) (o : Option Name) → slice_get lift.names k ≡ o
        → word (if t then 1 else name_word a r m o) ≡ word (if t then 1 else name_word b s n o)
    by k true o at = refl
    by k false None at = refl
    by k false (Some name) at = same k name at

-- slots that are kept
pub kept_slot : (own : Bool) (m n : ℕ → ℕ) (address : ℕ) → (own ≡ true → read 8 n address ≡ read 8 m address)
    → (if own then read 8 m address else 0) ≡ (if own then read 8 n address else 0)
kept_slot true m n address same = sym (same refl)
kept_slot false m n address same = refl

pub same_slots : (lift : Lift) (m n : Hart) (a : Activation) (regs : List ℕ) → KeepsSlots lift m n a
    → state_of lift a regs m.memory ≡ state_of lift a regs n.memory
same_slots lift m n a regs keeps = same_state lift a a regs regs m.memory n.memory by
  where
    by : (k : ℕ) (name : Name) → slice_get lift.names k ≡ Some name → word (word_of a regs m.memory name) ≡ word (word_of a regs n.memory name)
    by k (Register r) at = refl
    by k (Slot p below) at =
        ap word (kept_slot (p == a.procedure) m.memory n.memory (slot_address a below) (λ own.
        read_same 8 m.memory n.memory (slot_address a below) (slot_small a below)
        (keeps k (slot_address a below) (record { below = below; name = at ∙ ap (λ (q : ℕ). Some (Slot q below)) (eqb-true p a.procedure own); is = refl }))))

-- a state that has the words of these registers, and the constant
pub record HasRegisters (lift : Lift) (regs s : List ℕ) : Type 0 where
  pub words : (k r : ℕ) → k < 17 → slice_get lift.names k ≡ Some (Register r) → slice_index s k ≡ word (slice_index regs r)
  pub constant : slice_index s 16 ≡ 1

pub no_name_16 : (image : Image) (lift : Lift) → IsLiftOf image lift → (name : Name) → slice_get lift.names 16 ≡ Some name → ⊥
no_name_16 image lift is name at = let within = slice_get_within lift.names 16 name at in omega (arith, is.few)

pub below_16 : (image : Image) (lift : Lift) → IsLiftOf image lift → (k : ℕ) (name : Name) → slice_get lift.names k ≡ Some name → k < 16
below_16 image lift is k name at = let within = slice_get_within lift.names k name at in omega (arith, is.few)

pub state_has : (image : Image) (lift : Lift) → IsLiftOf image lift → (a : Activation) (regs : List ℕ) (memory : ℕ → ℕ)
    → HasRegisters lift regs (state_of lift a regs memory)
state_has image lift is a regs memory = record {
  words = λ k r below at.
      state_there lift a regs memory k (below_16 image lift is k (Register r) at)
      ∙ ap (λ (o : Option Name). word (name_word a regs memory o)) at;
  constant = state_constant lift a regs memory;
}

pub start_has : (image : Image) (lift : Lift) → IsLiftOf image lift → (m : Hart) → HasRegisters lift m.registers (start_of lift m)
start_has image lift is m = record {
  words = λ k r below at.
      let low = below_16 image lift is k (Register r) at in
      get_or-vector _ k below ∙ rw (ne_eqb k 16 (λ e. omega arith), at) refl;
  constant = get_or-vector _ 16 (omega arith);
}

-- an opening
slot_words-at : (lift : Lift) (a : Activation) (memory : ℕ → ℕ) (k : ℕ) → k < 16
    → slice_index (slot_words lift a memory) k ≡ word (name_word a [] memory (slice_get lift.names k))
slot_words-at lift a memory k h =
    get_or-map-range_with_len (λ k. word (name_word a [] memory (slice_get lift.names k))) 0 16 k k 0 h (omega arith)

module _ (image : Image) (lift : Lift) (is : IsLiftOf image lift) (a : Activation) (own : Contains lift.points.procedures a.procedure) where
  opened_at : (regs : List ℕ) (memory : ℕ → ℕ) (s : List ℕ) (k : ℕ) (last : Bool) (o : Option Name) → HasRegisters lift regs s → k < 17
      → slice_get lift.names k ≡ o → (k == 16) ≡ last
      → word (if option_map_or is_tracked_register o false || last then slice_index s k
      else if option_map_or (is_slot_of a.procedure) o false then slice_index (slot_words lift a memory) k else 0)
      ≡ word (if last then 1 else name_word a regs memory o)
  opened_at regs memory s k true None has h at last = let e = eqb-true k 16 last in ap word (ap (slice_index s) e ∙ has.constant)
  opened_at regs memory s k false None has h at last = refl
  opened_at regs memory s k true (Some name) has h at last =
      absurd (no_name_16 image lift is name (ap (slice_get lift.names) (sym (eqb-true k 16 last)) ∙ at))
  opened_at regs memory s k false (Some (Register r)) has h at last = ap word (has.words k r h at) ∙ word-word (slice_index regs r)
  opened_at regs memory s k false (Some (Slot p below)) has h at last =
      let low = below_16 image lift is k (Slot p below) at in
      by (p == a.procedure) (slot_words-at lift a memory k low ∙ ap (λ (o : Option Name). word (name_word a [] memory o)) at)
    where
      by : (mine : Bool) → slice_index (slot_words lift a memory) k ≡ word (if mine then read 8 memory (slot_address a below) else 0)
          → word (if mine then slice_index (slot_words lift a memory) k else 0) ≡ word (if mine then read 8 memory (slot_address a below) else 0)
      by true e = ap word e ∙ word-word (read 8 memory (slot_address a below))
      by false e = refl

  pub opened_state : (regs : List ℕ) (memory : ℕ → ℕ) (s : List ℕ) → HasRegisters lift regs s
      → opened (registers lift) (slots lift a.procedure) (slot_words lift a memory) s ≡ state_of lift a regs memory
  opened_state regs memory s has = same_vector _ _ (λ k h.
      rw (has_register image lift is k, has_slot image lift is a.procedure k own)
      (opened_at regs memory s k (k == 16) (slice_get lift.names k) has h refl refl))

  -- a return to the activation
  returned_at : (regs : List ℕ) (memory : ℕ → ℕ) (s e : List ℕ) (k : ℕ) (last : Bool) (o : Option Name) → HasRegisters lift regs e → k < 17
      → slice_get lift.names k ≡ o → (k == 16) ≡ last
      → ((p below : ℕ) → slice_get lift.names k ≡ Some (Slot p below) → slice_index s k ≡ word (word_of a regs memory (Slot p below)))
      → word (if option_map_or is_tracked_register o false || last then slice_index e k
      else if option_map_or (is_slot_of a.procedure) o false then slice_index s k else 0)
      ≡ word (if last then 1 else name_word a regs memory o)
  returned_at regs memory s e k true None has h at last there = ap word (ap (slice_index e) (eqb-true k 16 last) ∙ has.constant)
  returned_at regs memory s e k false None has h at last there = refl
  returned_at regs memory s e k true (Some name) has h at last there =
      absurd (no_name_16 image lift is name (ap (slice_get lift.names) (sym (eqb-true k 16 last)) ∙ at))
  returned_at regs memory s e k false (Some (Register r)) has h at last there = ap word (has.words k r h at) ∙ word-word (slice_index regs r)
  returned_at regs memory s e k false (Some (Slot p below)) has h at last there = by (p == a.procedure) (there p below at)
    where
      by : (mine : Bool) → slice_index s k ≡ word (if mine then read 8 memory (slot_address a below) else 0)
          → word (if mine then slice_index s k else 0) ≡ word (if mine then read 8 memory (slot_address a below) else 0)
      by true e = ap word e ∙ word-word (read 8 memory (slot_address a below))
      by false e = refl

  pub returned_state : (old regs : List ℕ) (memory : ℕ → ℕ) (e : List ℕ) → HasRegisters lift regs e
      → returned (registers lift) (slots lift a.procedure) (state_of lift a old memory) e ≡ state_of lift a regs memory
  returned_state old regs memory e has = same_vector _ _ (λ k h.
      rw (has_register image lift is k, has_slot image lift is a.procedure k own)
      (returned_at regs memory (state_of lift a old memory) e k (k == 16) (slice_get lift.names k) has h refl refl
      (λ p below at. state_there lift a old memory k (below_16 image lift is k (Slot p below) at) ∙ ap (λ (o : Option Name). word (name_word a old memory o)) at)))

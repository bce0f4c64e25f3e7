-- What a state says of registers and of memory, behind a change of registers.
use Rattle.std.proofs.Common.{◌≡◌, inl, inr, ℕ, ◌+◌, ◌%◌, ◌^◌, ◌<◌, ◌≤◌, ◌==◌, ℤ, pos, ◌+ℤ◌, Bool, true, false, List, length, get_or, slice_index, slice_set, ap, sym, ◌∙◌, arith, subst}
use Rattle.std.specs.Prelude.{if◌then◌else◌}
use Rattle.std.proofs.Common.{length-set}
use Rattle.std.proofs.lemmas.Bool.{cases_eq, cases_lt}
use Rattle.std.proofs.lemmas.List.{get_or_past, get_or-set_same, get_or-set_other}
use Rattle.elf_image.specs.Fetches.{read}
use Rattle.rv_step.specs.Words.{word}
use Rattle.rv_step.specs.Harts.{Hart, IsHart, x}
use Rattle.rv_step.specs.Effects.{written}
use Rattle.entry_values.specs.declared.values.Value.{Value}
use Rattle.entry_values.specs.declared.values.Value.TheVariants.{Is, Any}
use Rattle.entry_values.specs.Values.{Means, plus, IsAny, unknown}
use Rattle.entry_values.specs.declared.states.Slot.{Slot}
use Rattle.entry_values.specs.declared.states.State.{State}
use Rattle.entry_values.specs.States.{value_at, put, HasSlot, place, Describes, KnowsNoMore}
use Rattle.entry_runs.specs.Premises.{Spares, IsPlaced}
use Rattle.entry_runs.proofs.Bytes.{read_same}
use Rattle.entry_runs.proofs.Words.{sum_again}

-- registers: 32 words, x0 zero
pub record AreWords (regs : List ℕ) : Type 0 where
  pub count : length regs ≡ 32
  pub zero_is : slice_index regs 0 ≡ 0
  pub words : (r : ℕ) → slice_index regs r < 2 ^ 64

pub words_of_hart : (m : Hart) → IsHart m → AreWords m.registers
words_of_hart m hart = record {
  count = hart.registers;
  zero_is = hart.zero_is;
  words = λ r. elim (cases_lt r (length m.registers)) [
    | inl within ↦ hart.words r 0 within
    | inr past ↦ let e = get_or_past m.registers r 0 past in omega arith
  ];
}

-- a slot that claims something lies below sp, and doesn't wrap
pub record PlacedAt (entry : List ℕ) (o : ℕ) : Type 0 where
  pub high : 2 ^ 63 ≤ o
  pub low : o + 8 ≤ 2 ^ 64
  pub room : IsPlaced entry o

abbrev pub AllPlaced : List ℕ → List Slot → Type 0
AllPlaced entry slots = (o b k : ℕ) → HasSlot slots o (Is b k) → PlacedAt entry o

pub record Told (entry : List ℕ) (s : State) (m : Hart) : Type 0 where
  pub described : Describes entry s m
  pub placed : AllPlaced entry s.slots

pub constant_means : (entry : List ℕ) (k : ℕ) → slice_index entry 0 ≡ 0 → k < 2 ^ 64 → Means entry (Is 0 k) k
constant_means entry k zero_is small = omega arith

pub plus_means : (entry : List ℕ) (v : Value) (w : ℕ) (z : ℤ) → Means entry v w → Means entry (plus v z) (word (pos w +ℤ z))
plus_means entry (Is b k) w z means = ap (λ (u : ℕ). word (pos u +ℤ z)) means ∙ sum_again (slice_index entry b) k z
plus_means entry (Any a kind) w z means = tt

any_means : (entry : List ℕ) (v : Value) (w : ℕ) → v ≡ unknown → Means entry v w
any_means entry v w e = subst (λ (u : Value). Means entry u w) (sym e) tt

-- a register is written
pub put_means : (entry : List ℕ) (s : State) (regs : List ℕ) (rd : ℕ) (v : Value) (w : ℕ) → length s.values ≡ 32 → length regs ≡ 32
    → ((r : ℕ) → Means entry (value_at s r) (slice_index regs r)) → Means entry v w
    → (r : ℕ) → Means entry (value_at (put s rd v) r) (slice_index (written regs rd w) r)
put_means entry s regs rd v w wide count means new r = by (rd == 0)
  where
    there : Means entry (get_or (slice_set s.values rd v) r unknown) (slice_index (slice_set regs rd w) r)
    there = elim (cases_eq r rd) [
      | inl same ↦ elim (cases_lt r 32) [
        | inl within ↦
            let e : get_or (slice_set s.values rd v) r unknown ≡ v =
            ap (λ (k : ℕ). get_or (slice_set s.values rd v) k unknown) same ∙ get_or-set_same s.values rd v unknown (omega arith) in
            let f : slice_index (slice_set regs rd w) r ≡ w =
            ap (slice_index (slice_set regs rd w)) same ∙ get_or-set_same regs rd w 0 (omega arith) in
            subst (λ (u : Value). Means entry u (slice_index (slice_set regs rd w) r)) (sym e)
            (subst (λ (q : ℕ). Means entry v q) (sym f) new)
        | inr past ↦
            any_means entry _ _ (get_or_past (slice_set s.values rd v) r unknown (let n = length-set s.values rd v in omega arith))
      ]
      | inr other ↦
          subst (λ (u : Value). Means entry u (slice_index (slice_set regs rd w) r)) (sym (get_or-set_other s.values rd r v unknown other))
          (subst (λ (q : ℕ). Means entry (value_at s r) q) (sym (get_or-set_other regs rd r w 0 other)) (means r))
    ]

    by : (b : Bool) → Means entry (get_or (if b then s.values else slice_set s.values rd v) r unknown)
        (slice_index (if b then regs else slice_set regs rd w) r)
    by true = means r
    by false = there

-- slots whose bytes stay
pub slots_stay : (entry : List ℕ) (slots : List Slot) (m n : Hart) → Spares entry slots m n → (o b k : ℕ) → HasSlot slots o (Is b k)
    → Means entry (Is b k) (read 8 m.memory (place entry o)) → Means entry (Is b k) (read 8 n.memory (place entry o))
slots_stay entry slots m n spares o b k has means =
    read_same 8 m.memory n.memory (place entry o) (omega arith) (λ j below. spares o b k has j below) ∙ means

pub spares_all : (entry : List ℕ) (slots : List Slot) (m n : Hart) → ((b : ℕ) → b < 2 ^ 64 → n.memory b ≡ m.memory b) → Spares entry slots m n
spares_all entry slots m n same o b k has j below = same ((place entry o + j) % 2 ^ 64) (omega arith)

pub written_told : (entry : List ℕ) (s : State) (m n : Hart) (rd : ℕ) (v : Value) (w : ℕ) → length s.values ≡ 32 → AreWords m.registers
    → Told entry s m → Means entry v w → n.registers ≡ written m.registers rd w → Spares entry s.slots m n → Told entry (put s rd v) n
written_told entry s m n rd v w wide words told new registers spares = record {
  described = record {
    registers = λ r.
        subst (λ (regs : List ℕ). Means entry (value_at (put s rd v) r) (slice_index regs r)) (sym registers)
        (put_means entry s m.registers rd v w wide words.count told.described.registers new r);
    slots = λ o b k has. slots_stay entry s.slots m n spares o b k has (told.described.slots o b k has);
  };
  placed = told.placed;
}

pub same_told : (entry : List ℕ) (s : State) (m n : Hart) → Told entry s m → n.registers ≡ m.registers → Spares entry s.slots m n → Told entry s n
same_told entry s m n told registers spares = record {
  described = record {
    registers = λ r. subst (λ (regs : List ℕ). Means entry (value_at s r) (slice_index regs r)) (sym registers) (told.described.registers r);
    slots = λ o b k has. slots_stay entry s.slots m n spares o b k has (told.described.slots o b k has);
  };
  placed = told.placed;
}

pub less_told : (entry : List ℕ) (s t : State) (m : Hart) → KnowsNoMore s t → Told entry s m → Told entry t m
less_told entry s t m less told = record {
  described = record {
    registers = λ r. elim (less.values r) [
      | inl same ↦ subst (λ (v : Value). Means entry v (x m r)) (sym same) (told.described.registers r)
      | inr any ↦ free (value_at t r) (x m r) any
    ];
    slots = λ o b k has. told.described.slots o b k (less.slots o b k has);
  };
  placed = λ o b k has. told.placed o b k (less.slots o b k has);
}
  where
    free : (v : Value) (w : ℕ) → IsAny v → Means entry v w
    free (Is b k) w any = absurd any
    free (Any a kind) w any = tt

-- What a state says behind a store.
use Rattle.std.proofs.Common.{◌≡◌, inl, inr, ℕ, ◌+◌, ◌%◌, ◌^◌, ◌<◌, ◌==◌, Bool, true, false, List, ◌∷◌, slice_index, None, Some, refl, ap, sym, ◌∙◌, arith, subst, ◌&&◌, nat_le}
use Rattle.std.specs.Prelude.{if◌then◌else◌}
use Rattle.std.proofs.lemmas.Bool.{eqb-true, leb-true}
use Rattle.elf_image.specs.Fetches.{read}
use Rattle.rv_step.specs.Harts.{Hart}
use Rattle.rv_step.specs.Effects.{stored, Stores}
use Rattle.entry_values.specs.declared.values.Value.{Value}
use Rattle.entry_values.specs.declared.values.Value.TheVariants.{Is, Any}
use Rattle.entry_values.specs.Values.{Means, FitsWord}
use Rattle.entry_values.specs.declared.states.State.{State}
use Rattle.entry_values.specs.States.{value_at, HasSlot, place}
use Rattle.entry_values.specs.Transfers.{is_below, cleared, blurred, is_known, slots_behind, stored_state}
use Rattle.entry_runs.specs.Premises.{Own, own_at, Spares, IsPlaced}
use Rattle.entry_runs.proofs.Bytes.{word_stored, byte_spared}
use Rattle.entry_runs.proofs.Describing.{AreWords, PlacedAt, Told, same_told}
use Rattle.entry_runs.proofs.Leaving.{IsLeft, cleared_left, blurred_left, both, with_slots, own_is, left_stays}

-- a store at a known place of the own frame
module _ (entry : List ℕ) (s : State) (m n : Hart) (pc w o value : ℕ) (v : Value) (told : Told entry s m) (small : o < 2 ^ 64) (fits : value < 2 ^ 64)
    (base : slice_index entry 2 < 2 ^ 64)
    (means : Means entry v value) (made : (b : ℕ) → b < 2 ^ 64 → n.memory b ≡ stored w (place entry o) value m.memory b)
    (placed : is_below o w ≡ true → IsPlaced entry o) where
  stays : (p b k : ℕ) → IsLeft w o s.slots p b k → Means entry (Is b k) (read 8 n.memory (place entry p))
  stays = left_stays entry s m n w o told small base (byte_spared m.memory n.memory w (place entry o) value made)

  behind_means : (t : Bool) → (w == 8 && is_below o 8 && is_known v) ≡ t → (p b k : ℕ)
      → HasSlot (if t then record { offset = o; value = v } ∷ cleared w o s.slots else blurred pc w o s.slots) p (Is b k)
      → Means entry (Is b k) (read 8 n.memory (place entry p))
  behind_means false e p b k has = stays p b k (blurred_left pc w o s.slots p b k has)
  behind_means true e p b k (inr later) = stays p b k (cleared_left w o s.slots p b k later)
  behind_means true e p b k (inl here) =
      let eight = eqb-true w 8 (both (w == 8) (is_below o 8) (both (w == 8 && is_below o 8) (is_known v) e).0).0 in
      let now : (c : ℕ) → c < 2 ^ 64 → n.memory c ≡ stored 8 (place entry o) value m.memory c =
      subst (λ (u : ℕ). (c : ℕ) → c < 2 ^ 64 → n.memory c ≡ stored u (place entry o) value m.memory c) eight made in
      ap (λ (q : ℕ). read 8 n.memory (place entry q)) (sym here.0)
      ∙ word_stored m.memory n.memory (place entry o) value (omega arith) fits now
      ∙ subst (λ (u : Value). Means entry u value) here.1 means

  behind_placed : (t : Bool) → (w == 8 && is_below o 8 && is_known v) ≡ t → (p b k : ℕ)
      → HasSlot (if t then record { offset = o; value = v } ∷ cleared w o s.slots else blurred pc w o s.slots) p (Is b k)
      → PlacedAt entry p
  behind_placed false e p b k has = told.placed p b k (blurred_left pc w o s.slots p b k has).was
  behind_placed true e p b k (inr later) = told.placed p b k (cleared_left w o s.slots p b k later).was
  behind_placed true e p b k (inl here) =
      let parts = both (w == 8) (is_below o 8) (both (w == 8 && is_below o 8) (is_known v) e).0 in
      let sides = both (nat_le (2 ^ 63) o) (nat_le (o + 8) (2 ^ 64)) parts.1 in
      let eight = eqb-true w 8 parts.0 in
      subst (PlacedAt entry) here.0 (record {
        high = leb-true (2 ^ 63) o sides.0;
        low = leb-true (o + 8) (2 ^ 64) sides.1;
        room = placed (ap (is_below o) eight ∙ parts.1);
      })

pub stored_told : (entry : List ℕ) (s : State) (m n : Hart) (pc w next a value : ℕ) (at v : Value) → AreWords entry → Told entry s m → FitsWord at
    → Means entry at a → value < 2 ^ 64 → Means entry v value → Stores m w a value next n
    → (own_at w at ≡ None → Spares entry s.slots m n)
    → ((own : Own) → own_at w at ≡ Some own → is_below own.offset own.width ≡ true → IsPlaced entry own.offset)
    → Told entry (stored_state pc w at v s) n
stored_told entry s m n pc w next a value (Any c kind) v words told small where_is fits means stores spared placed =
    same_told entry s m n told stores.registers (spared refl)
stored_told entry s m n pc w next a value (Is b o) v words told small where_is fits means stores spared placed = by (b == 2) refl spared placed
  where
    here : b ≡ 2 → a ≡ place entry o
    here two = where_is ∙ ap (λ (c : ℕ). (slice_index entry c + o) % 2 ^ 64) two

    by : (t : Bool) → (b == 2) ≡ t
        → ((if t then Some (own_is o w) else None) ≡ None → Spares entry s.slots m n)
        → ((own : Own) → (if t then Some (own_is o w) else None) ≡ Some own → is_below own.offset own.width ≡ true → IsPlaced entry own.offset)
        → Told entry (if t then with_slots s (slots_behind pc w o v s.slots) else s) n
    by false e spares place_is = same_told entry s m n told stores.registers (spares refl)
    by true e spares place_is =
        let made : (c : ℕ) → c < 2 ^ 64 → n.memory c ≡ stored w (place entry o) value m.memory c =
        subst (λ (q : ℕ). (c : ℕ) → c < 2 ^ 64 → n.memory c ≡ stored w q value m.memory c) (here (eqb-true b 2 e)) stores.memory in
        record {
          described = record {
            registers = λ r. subst (λ (regs : List ℕ). Means entry (value_at s r) (slice_index regs r)) (sym stores.registers) (told.described.registers r);
            slots = behind_means entry s m n pc w o value v told small fits (words.words 2) means made (place_is (own_is o w) refl) _ refl;
          };
          placed = behind_placed entry s m n pc w o value v told small fits (words.words 2) means made (place_is (own_is o w) refl) _ refl;
        }

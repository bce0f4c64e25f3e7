-- What is left of a list of slots, one slot on.
use Rattle.std.proofs.Common.{◌≡◌, inl, inr, ℕ, zero, suc, ◌+◌, ◌<◌, true, List, [], ◌∷◌, drop, get_or, length, refl, sym, ap, subst, arith}
use Rattle.std.proofs.lemmas.List.{drop_more}
use Rattle.entry_values.specs.declared.values.Value.{Value}
use Rattle.entry_values.specs.declared.values.Value.TheVariants.{Is}
use Rattle.entry_values.specs.declared.states.Slot.{Slot}
use Rattle.entry_values.specs.States.{HasSlot}
use Rattle.entry_values.specs.Transfers.{is_known}
use Rattle.entry_values.specs.Checks.{AreIn}

pub has_at : (slots : List Slot) (i : ℕ) (d : Slot) → i < length slots → HasSlot slots (get_or slots i d).offset (get_or slots i d).value
has_at [] i d within = absurd (omega (arith, within))
has_at (slot ∷ rest) zero d within = inl (refl, refl)
has_at (slot ∷ rest) (suc i) d within = inr (has_at rest i d (omega (arith, within)))

pub in_more : (slot : Slot) (rest all : List Slot) → (is_known slot.value ≡ true → HasSlot all slot.offset slot.value) → AreIn rest all → AreIn (slot ∷ rest) all
in_more slot rest all mine others o b k (inr has) = others o b k has
in_more slot rest all mine others o b k (inl has) =
    let there = mine (ap is_known has.1) in
    subst (λ (v : Value). HasSlot all o v) has.1 (subst (λ (n : ℕ). HasSlot all n slot.value) has.0 there)

pub has_found : (slots : List Slot) (i : ℕ) (d : Slot) (o b k : ℕ) → i < length slots
    → ((get_or slots i d).offset ≡ o) × ((get_or slots i d).value ≡ Is b k) → HasSlot slots o (Is b k)
has_found [] i d o b k within is = absurd (omega (arith, within))
has_found (slot ∷ rest) zero d o b k within is = inl is
has_found (slot ∷ rest) (suc i) d o b k within is = inr (has_found rest i d o b k (omega (arith, within)) is)

pub in_left : (slots all : List Slot) (i : ℕ) (d : Slot) → i < length slots
    → (is_known (get_or slots i d).value ≡ true → HasSlot all (get_or slots i d).offset (get_or slots i d).value)
    → (AreIn (drop i slots) all → AreIn slots all) → AreIn (drop (i + 1) slots) all → AreIn slots all
in_left slots all i d within mine so rest =
    so (subst (λ (xs : List Slot). AreIn xs all) (sym (drop_more slots i d within)) (in_more (get_or slots i d) (drop (i + 1) slots) all mine rest))

-- Where the group of a byte isn't marked, no slot that is marked has the byte.
use Rattle.std.proofs.Common.{◌≡◌, ℕ, ◌+◌, ◌-◌, ◌/◌, ◌%◌, ◌^◌, ◌<◌, ◌≤◌, false, nat_lt, is_some, List, get_or, All, Option, None, Some, IsSomeAnd, sym, subst, ap, ◌∙◌, inl, inr, arith}
use Rattle.std.proofs.lemmas.Bool.{cases_lt, cases_eq, le-ltb, ltb-false}
use native.Mathlib.Nat.{mod-add-mod}
use Rattle.report_text.specs.declared.names.Name.{Name}
use Rattle.rv_step.specs.Effects.{distance}
use Rattle.run_watch.specs.declared.activation.Activation.{Activation}
use Rattle.run_watch.specs.declared.places.SlotAt.{SlotAt}
use Rattle.run_watch.specs.Activations.{slots_from}
use Rattle.run_watch.specs.Slots.{byte_at, IsApart}
use Rattle.run_watch.specs.Marks.{Marks, depth_at, group, IsMarked, IsMarkedSlot, AreMarked}
use Rattle.run_watch.proofs.Marking.{all_from}

unmarked : (o : Option ℕ) (P : ℕ → Type 0) → is_some o ≡ false → IsSomeAnd o P → ⊥
unmarked None P none there = absurd there
unmarked (Some n) P none there = cc

in_groups : (s b : ℕ) → s < 2 ^ 64 → b < 2 ^ 64 → distance s b < 8 → (b / 8 ≡ s / 8 → ⊥) → b / 8 ≡ (s + 7) % 2 ^ 64 / 8
in_groups s b s_fits b_fits near other = omega (arith, s_fits, b_fits, near, other)

pub holds_none : (marks : Marks) (names : List Name) (activations : List Activation) (b : ℕ) → b < 2 ^ 64
    → AreMarked marks (slots_from names 1 activations) → is_some (depth_at marks (group b)) ≡ false
    → All (λ s. nat_lt (distance s.address b) 8 ≡ false) (slots_from names 1 activations)
holds_none marks names activations b fits are none k d within =
    let s : SlotAt = get_or (slots_from names 1 activations) k d in
    let small : s.address < 2 ^ 64 =
    all_from (λ (t : SlotAt). t.address < 2 ^ 64) names 1 activations (λ e j below a less. omega arith) k d within in
    let is : IsMarkedSlot marks s = are k d within in
    elim (cases_lt (distance s.address b) 8) [
      | inl near ↦ absurd (elim (cases_eq (b / 8) (s.address / 8)) [
        | inl e ↦ unmarked _ _ none (subst (λ g. IsMarked marks g s.depth) (sym e) is.0)
        | inr other ↦
            let e = in_groups s.address b small fits near other in
            unmarked _ _ none (subst (λ g. IsMarked marks g s.depth) (sym e) is.1)
      ])
      | inr far ↦ le-ltb _ _ far
    ]

-- slots that have neither the first nor the last of 8 bytes have none of them
between : (y k : ℕ) → k < 8 → 8 ≤ y % 2 ^ 64 → 8 ≤ (y + 7) % 2 ^ 64 → 8 ≤ (y + k) % 2 ^ 64
between y k below at_first at_last = omega (arith, below, at_first, at_last)

pub from_place : (a k x : ℕ) → ((a + k) % 2 ^ 64 + x) % 2 ^ 64 ≡ (a + x + k) % 2 ^ 64
from_place a k x = mod-add-mod (a + k) (2 ^ 64) x ∙ ap (λ n. n % 2 ^ 64) (let e : a + k + x ≡ a + x + k = omega arith in e)

pub all_apart : (slots : List SlotAt) (a : ℕ) → All (λ s. nat_lt (distance s.address a) 8 ≡ false) slots
    → All (λ s. nat_lt (distance s.address (byte_at a 7)) 8 ≡ false) slots → All (IsApart a) slots
all_apart slots a at_first at_last i d within k below =
    let x : ℕ = 2 ^ 64 - (get_or slots i d).address in
    let far : 8 ≤ (a + x + 7) % 2 ^ 64 = subst (λ n. 8 ≤ n) (from_place a 7 x) (ltb-false _ _ (at_last i d within)) in
    le-ltb _ _ (subst (λ n. 8 ≤ n) (sym (from_place a k x)) (between (a + x) k below (ltb-false _ _ (at_first i d within)) far))

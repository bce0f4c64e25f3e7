-- The slots of activations, as watches list them, and what is kept of them.
use Rattle.std.proofs.Common.{◌≡◌, ℕ, ◌+◌, ◌-◌, ◌^◌, List, [], ◌∷◌, ◌++◌, length, All, Contains, slice_get, Some, inl, inr, ap, sym, ◌∙◌, arith, subst}
use Rattle.std.proofs.lemmas.List.Elements.{All-cons, All-head, All-nil, All-tail, Contains-append_cases, Contains-append_left, Contains-append_right}
use Rattle.report_text.specs.declared.names.Name.TheVariants.{Slot}
use Rattle.rv_step.specs.Harts.{Hart}
use Rattle.run_paths.specs.Lifts.{Lift}
use Rattle.run_paths.specs.Activations.{Activation, HasSlot, behind}
use Rattle.run_paths.specs.Discipline.{KeepsBytes, KeepsSlots}
use Rattle.run_watch.specs.Activations.{slots_from, slots_of}
use Rattle.run_watch.specs.declared.activation.Activation.{Activation as Watched}
use Rattle.run_watch.specs.declared.places.SlotAt.{SlotAt}
use Rattle.run_verdicts.specs.Seen.{AreSeen, IsSeen}
use Rattle.run_verdicts.proofs.SlotsFrom.{slots_from-append}
use Rattle.run_verdicts.proofs.Listed.{is_listed, listed}

-- a slot of an activation, as it is seen
pub seen_slot : (lift : Lift) (a : Activation) (w : Watched) (depth k address : ℕ) → IsSeen lift a w → HasSlot lift a k address
    → Contains (slots_of lift.names depth w) (record { depth = depth; position = k; address = address })
seen_slot lift a w depth k address seen slot =
    subst (λ (at : ℕ). Contains (slots_of lift.names depth w) (record { depth = depth; position = k; address = at }))
    (ap (λ (sp : ℕ). behind sp (2 ^ 64 - slot.below)) seen.entry_sp ∙ sym slot.is)
    (listed lift.names depth w k slot.below (slot.name ∙ ap (λ (p : ℕ). Some (Slot p slot.below)) (sym seen.procedure)))

pub slot_seen : (lift : Lift) (a : Activation) (w : Watched) (depth : ℕ) (slot : SlotAt) → IsSeen lift a w
    → Contains (slots_of lift.names depth w) slot
    → HasSlot lift a slot.position slot.address
slot_seen lift a w depth slot seen there =
    let (k, below, at, is) = is_listed lift.names depth w slot there in record {
      below = below;
      name = ap (λ (s : SlotAt). slice_get lift.names s.position) is ∙ at ∙ ap (λ (p : ℕ). Some (Slot p below)) seen.procedure;
      is = ap (λ (s : SlotAt). s.address) is ∙ ap (λ (sp : ℕ). behind sp (2 ^ 64 - below)) seen.entry_sp;
    }

-- the bytes of all slots of activations, and of all slots that are listed of them
module _ (lift : Lift) (m n : Hart) where
  abbrev KeepsAt : SlotAt → Type 0
  KeepsAt slot = KeepsBytes 8 m n slot.address

  pub listed_kept : (activations : List Activation) (seen : List Watched) → AreSeen lift activations seen
      → ((slot : SlotAt) → Contains (slots_from lift.names 1 seen) slot → KeepsAt slot) → All (KeepsSlots lift m n) activations
  listed_kept [] seen are keeps = All-nil (KeepsSlots lift m n)
  listed_kept (a ∷ earlier) seen (before, w, is, seen_a, more) keeps =
      let slots = slots_from lift.names 1 before in
      let own = slots_of lift.names (1 + length before) w in
      let all : slots_from lift.names 1 seen ≡ slots ++ own = ap (slots_from lift.names 1) is
      ∙ slots_from-append lift.names 1 before w in
      let keeps_there : (slot : SlotAt) → Contains (slots ++ own) slot → KeepsAt slot
      = λ slot there. keeps slot (subst (λ (listed : List SlotAt). Contains listed slot) (sym all) there) in
      All-cons (KeepsSlots lift m n) a earlier
      (λ k address slot.
      let s : SlotAt = record { depth = 1 + length before; position = k; address = address } in
      keeps_there s (Contains-append_right slots own s (seen_slot lift a w (1 + length before) k address seen_a slot)))
      (listed_kept earlier before more (λ slot there. keeps_there slot (Contains-append_left slots own slot there)))

  pub kept_listed : (activations : List Activation) (seen : List Watched) → AreSeen lift activations seen
      → All (KeepsSlots lift m n) activations
      → (slot : SlotAt) → Contains (slots_from lift.names 1 seen) slot → KeepsAt slot
  kept_listed [] seen are keeps slot there =
      let none = subst (λ (ws : List Watched). Contains (slots_from lift.names 1 ws) slot) are there in absurd
      (omega (arith, none.1))
  kept_listed (a ∷ earlier) seen (before, w, is, seen_a, more) keeps slot there =
      let slots = slots_from lift.names 1 before in
      let own = slots_of lift.names (1 + length before) w in
      let all : slots_from lift.names 1 seen ≡ slots ++ own = ap (slots_from lift.names 1) is
      ∙ slots_from-append lift.names 1 before w in
      elim (Contains-append_cases slots own slot (subst (λ (listed : List SlotAt). Contains listed slot) all there)) [
        | inl former ↦ kept_listed earlier before more (All-tail (KeepsSlots lift m n) a earlier keeps) slot former
        | inr last ↦
            All-head (KeepsSlots lift m n) a earlier keeps slot.position slot.address
            (slot_seen lift a w (1 + length before) slot seen_a last)
      ]

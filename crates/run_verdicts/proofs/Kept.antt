-- Where a step leaves the slots, the watch of stores finds nothing.
use Rattle.std.proofs.Common.{◌≡◌, ℕ, ◌+◌, ◌^◌, ◌<◌, nat_lt, ◌==◌, Bool, true, false, not, List, length, Contains, None, inl, inr, refl, ap, sym, ◌∙◌, arith, subst}
use Rattle.std.proofs.lemmas.Bool.{and_from, and_parts, cases_lt, eq-eqb, false_from_ne_true, le-ltb, lt-ltb}
use Rattle.std.proofs.lemmas.Option.{slice_get_within}
use Rattle.report_text.specs.declared.names.Name.TheVariants.{Slot}
use Rattle.std.proofs.lemmas.List.Elements.{Contains-append_cases}
use Rattle.row_modules.specs.Positions.{has}
use Rattle.flow_points.specs.declared.code_points.CodePoint.{CodePoint}
use Rattle.rv_step.specs.Effects.{distance}
use Rattle.rv_step.specs.Harts.{Hart}
use Rattle.rv_step.specs.declared.records.StepRec.{StepRec}
use Rattle.run_paths.specs.Lifts.{Lift}
use Rattle.run_paths.specs.Activations.{Activation, behind}
use Rattle.run_paths.specs.Discipline.{KeepsBytes, LeavesSlots}
use Rattle.run_watch.specs.Activations.{slots_of}
use Rattle.run_watch.specs.Judges.{has_bit, holds_kept, is_kept, is_writable, made_bytes, store_detail}
use Rattle.run_watch.specs.Moments.{Moment}
use Rattle.run_watch.specs.Slots.{live}
use Rattle.run_watch.specs.declared.places.SlotAt.{SlotAt}
use Rattle.run_verdicts.specs.Changes.{Changes}
use Rattle.run_verdicts.proofs.Listed.{is_listed}
use Rattle.run_verdicts.proofs.Passing.{none_found, none_passes}
use Rattle.run_verdicts.proofs.Stores.{kept_listed, slot_seen}
use Rattle.run_verdicts.proofs.SlotsFrom.{slots_small}
use Rattle.run_verdicts.proofs.SlotsTold.{TellsSlots}

module _ (lift : Lift) (c : CodePoint) (m n : Hart) (told : StepRec) (changes : Changes m n told) (last : Activation)
    (earlier : List Activation)
    (moment : Moment) (t : TellsSlots lift c last earlier moment) where
  abbrev depth : ℕ
  depth = length t.below + 1

  module _ (leaves_slots : LeavesSlots lift m n c last earlier) where
    holds_not : (b : ℕ) → Contains (made_bytes told) b → (slot : SlotAt) → slot.address < 2 ^ 64
        → (is_writable moment.depth moment.writable slot ≡ false → KeepsBytes 8 m n slot.address)
        → holds_kept moment.depth moment.writable b slot ≡ false
    holds_not b changed slot small keeps =
        let differs = (changes b).0 changed in
        let d = distance slot.address b in
        false_from_ne_true (holds_kept moment.depth moment.writable b slot) (λ holds.
        let parts = and_parts (nat_lt d 8) (not (is_writable moment.depth moment.writable slot)) holds in
        elim (cases_lt d 8) [
          | inl near ↦
              let there : behind slot.address d ≡ b = omega (arith, small, differs.0) in
              differs.1 (subst (λ (a : ℕ). n.memory a ≡ m.memory a) there
              (keeps (opposite (is_writable moment.depth moment.writable slot) parts.1) d near))
          | inr far ↦ let clash : true ≡ false = sym parts.0 ∙ le-ltb d 8 far in cc
        ])
      where
        opposite : (t : Bool) → not t ≡ true → t ≡ false
        opposite true is = cc
        opposite false is = refl

    own_keeps : (slot : SlotAt) → Contains (slots_of lift.names depth t.top) slot
        → is_writable moment.depth moment.writable slot ≡ false
        → KeepsBytes 8 m n slot.address
    own_keeps slot there kept =
        let is_slot = slot_seen lift last t.top depth slot t.last_seen there in
        leaves_slots.own slot.position slot.address is_slot (λ assigns.
        let (k, under, at, is) = is_listed lift.names depth t.top slot there in
        let same : slot.depth ≡ moment.depth = ap (λ (s : SlotAt). s.depth) is ∙ sym t.depth in
        let low = slice_get_within lift.names slot.position (Slot last.procedure is_slot.below) is_slot.name in
        let set = (t.writable slot.position).1 ((last.procedure, is_slot.below, is_slot.name), assigns) in
        let writable = and_from (slot.depth == moment.depth) (has_bit moment.writable slot.position)
        (eq-eqb slot.depth moment.depth same)
        (and_from (nat_lt slot.position 16) (has moment.writable slot.position)
        (let few = t.few in lt-ltb slot.position 16 (omega (arith, low, few))) set) in
        let clash : true ≡ false = sym writable ∙ kept in cc)

    pub nothing_found : store_detail moment told ≡ None
    nothing_found = none_found (is_kept moment) (made_bytes told) (λ b changed.
        none_passes (holds_kept moment.depth moment.writable b) (live moment.slots) (λ slot there.
        elim (Contains-append_cases moment.slots.earlier moment.slots.last slot there) [
          | inl former ↦
              let listed = subst (λ (slots : List SlotAt). Contains slots slot) t.earlier_slots former in
              holds_not b changed slot (slots_small lift.names 1 t.below slot listed)
              (λ kept. kept_listed lift m n earlier t.below t.earlier_seen leaves_slots.others slot listed)
          | inr latter ↦
              let listed = subst (λ (slots : List SlotAt). Contains slots slot) t.last_slots latter in
              let is_slot = slot_seen lift last t.top depth slot t.last_seen listed in
              holds_not b changed slot (let is = is_slot.is in omega (arith, is))
              (own_keeps slot listed)
        ]))

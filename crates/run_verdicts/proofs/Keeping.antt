-- Where the watch of stores finds nothing, a step leaves the slots.
use Rattle.std.proofs.Common.{◌≡◌, ℕ, ◌+◌, ◌^◌, ◌<◌, nat_lt, ◌==◌, true, false, not, List, length, Contains, None, inl, inr, ap, sym, ◌∙◌, arith, subst}
use Rattle.std.proofs.lemmas.Bool.{and_from, and_left, and_right, cases_eq, false_from_ne_true, lt-ltb, ne_eqb}
use Rattle.std.proofs.lemmas.List.Elements.{Contains-append_left, Contains-append_right}
use Rattle.row_modules.specs.Positions.{has}
use Rattle.flow_points.specs.declared.code_points.CodePoint.{CodePoint}
use Rattle.rv_step.specs.Effects.{distance}
use Rattle.rv_step.specs.Harts.{Hart}
use Rattle.rv_step.specs.declared.records.StepRec.{StepRec}
use Rattle.run_paths.specs.Lifts.{Lift}
use Rattle.run_paths.specs.Activations.{Activation, behind}
use Rattle.run_paths.specs.Discipline.{Assigns, KeepsBytes, LeavesSlots}
use Rattle.run_watch.specs.Activations.{slots_from, slots_of}
use Rattle.run_watch.specs.Judges.{has_bit, holds_kept, is_kept, is_writable, made_bytes, store_detail}
use Rattle.run_watch.specs.Moments.{Moment}
use Rattle.run_watch.specs.Slots.{live}
use Rattle.run_watch.specs.declared.places.SlotAt.{SlotAt}
use Rattle.run_verdicts.specs.Changes.{Changes}
use Rattle.run_verdicts.proofs.SlotsFrom.{depth_below}
use Rattle.run_verdicts.proofs.Passing.{any_passes_not, found_none}
use Rattle.run_verdicts.proofs.Stores.{listed_kept, seen_slot}
use Rattle.run_verdicts.proofs.SlotsFrom.{slots_small}
use Rattle.run_verdicts.proofs.SlotsTold.{TellsSlots}

module _ (lift : Lift) (c : CodePoint) (m n : Hart) (told : StepRec) (changes : Changes m n told) (last : Activation)
    (earlier : List Activation)
    (moment : Moment) (t : TellsSlots lift c last earlier moment) where
  abbrev Live : SlotAt → Type 0
  Live slot = Contains (live moment.slots) slot

  abbrev depth : ℕ
  depth = length t.below + 1

  earlier_live : (slot : SlotAt) → Contains (slots_from lift.names 1 t.below) slot → Live slot
  earlier_live slot there =
      Contains-append_left moment.slots.earlier moment.slots.last slot
      (subst (λ (slots : List SlotAt). Contains slots slot) (sym t.earlier_slots) there)

  last_live : (slot : SlotAt) → Contains (slots_of lift.names depth t.top) slot → Live slot
  last_live slot there =
      Contains-append_right moment.slots.earlier moment.slots.last slot
      (subst (λ (slots : List SlotAt). Contains slots slot) (sym t.last_slots) there)

  -- a slot of an earlier activation, and one that the point doesn't assign, isn't writable
  earlier_kept : (slot : SlotAt) → Contains (slots_from lift.names 1 t.below) slot
      → is_writable moment.depth moment.writable slot ≡ false
  earlier_kept slot there =
      let less = depth_below lift.names 1 t.below slot there in
      and_left (slot.depth == moment.depth) (has_bit moment.writable slot.position)
      (ne_eqb slot.depth moment.depth (λ same. let d = t.depth in omega (arith, same, less, d)))

  last_kept : (slot : SlotAt) → (Assigns lift c slot.position → ⊥) → is_writable moment.depth moment.writable slot ≡ false
  last_kept slot absent =
      and_right (slot.depth == moment.depth) (has_bit moment.writable slot.position)
      (and_right (nat_lt slot.position 16) (has moment.writable slot.position)
      (false_from_ne_true (has moment.writable slot.position) (λ set. absent ((t.writable slot.position).0 set).1)))

  -- nothing is found
  module _ (none : store_detail moment told ≡ None) where
    byte_kept : (slot : SlotAt) → slot.address < 2 ^ 64 → Live slot → is_writable moment.depth moment.writable slot ≡ false
        → KeepsBytes 8 m n slot.address
    byte_kept slot small there kept j below =
        let b = behind slot.address j in
        elim (cases_eq (n.memory b) (m.memory b)) [
          | inl same ↦ same
          | inr differ ↦
              let not_kept = found_none (is_kept moment) (made_bytes told) none b ((changes b).1 (omega arith, differ)) in
              let passes_not = any_passes_not (holds_kept moment.depth moment.writable b)
              (live moment.slots) not_kept slot there in
              let far : distance slot.address b ≡ j = omega (arith, small, below) in
              let near : nat_lt (distance slot.address b) 8 ≡ true = lt-ltb (distance slot.address b) 8
              (omega (arith, far, below)) in
              let passes = and_from (nat_lt (distance slot.address b) 8)
              (not (is_writable moment.depth moment.writable slot)) near (ap not kept) in
              let clash : true ≡ false = sym passes ∙ passes_not in cc
        ]

    pub leaves : LeavesSlots lift m n c last earlier
    leaves = record {
      others = listed_kept lift m n earlier t.below t.earlier_seen (λ slot there.
          byte_kept slot (slots_small lift.names 1 t.below slot there) (earlier_live slot there) (earlier_kept slot there));
      own = λ k address slot absent.
          let s : SlotAt = record { depth = depth; position = k; address = address } in
          byte_kept s (let is = slot.is in omega (arith, is))
          (last_live s (seen_slot lift last t.top depth k address t.last_seen slot)) (last_kept s absent);
    }

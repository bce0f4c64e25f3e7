-- The slots that an instruction assigns are those that its store touches.
use Rattle.std.proofs.Common.{◌≡◌, ◌∙◌, ℕ, true, false, ◌<◌, ◌==◌, List, ◌++◌, map, slice_get, Contains, Option, None, Some, inl, inr, refl, sym, ap, subst, arith}
use Rattle.std.specs.Option.{option_map_or}
use Rattle.std.proofs.lemmas.List.{append-nil, map-append}
use Rattle.std.proofs.lemmas.List.Elements.{Contains-append_cases, Contains-append_right}
use Rattle.std.proofs.lemmas.Nat.Bits.{bit_at-zero}
use Rattle.row_modules.specs.Positions.{has}
use Rattle.affine_prog.specs.Assignments.{position_of}
use Rattle.affine_prog.specs.declared.Assign.{Assign}
use Rattle.flow_points.specs.declared.code_points.CodePoint.{CodePoint}
use Rattle.frame_offsets.specs.Frames.{IsOffset, offset_at}
use Rattle.report_text.specs.declared.names.Name.{Name}
use Rattle.report_text.specs.declared.names.Name.TheVariants.{Register, Slot}
use Rattle.affine_lift.specs.declared.value.Value.{Value}
use Rattle.affine_lift.specs.declared.store.FrameStore.{FrameStore}
use Rattle.affine_lift.specs.FrameSlots.{access_of, is_touched, store_of, stores_of}
use Rattle.affine_lift.specs.Effects.{effect_of, register_effect, result_of, slot_effect}
use Rattle.affine_lift.specs.Lifting.{AreSlotWrites, IsSlotAt, WritesSlots, positions_where}
use Rattle.affine_lift.proofs.PositionBits.{has_name, has_positions}
use Rattle.affine_lift.proofs.StoresWrite.{register_place, stored_there, touched_there}

-- the positions of the slots that a store touches, where there is one
abbrev pub written : List Name → ℕ → Option FrameStore → ℕ
written names p None = 0
written names p (Some s) = positions_where (is_touched p s) names

nothing_in_zero : (k : ℕ) → has 0 k ≡ true → ⊥
nothing_in_zero k e = let bad : has 0 k ≡ false = ap (λ n. n == 1) (bit_at-zero k) in let clash : false ≡ true = sym bad ∙ e in cc clash

slots_are : (names : List Name) (p : ℕ) (result : Option (ℕ × Value)) (o : Option FrameStore)
    → AreSlotWrites names (register_effect names result ++ slot_effect names p o) (written names p o)
slots_are names p result None k = (
  λ e. absurd (nothing_in_zero k e),
  λ (slot, there). absurd (register_place names result k
      (subst (λ (assigns : List Assign). Contains (map position_of assigns) k) (append-nil (register_effect names result)) there) slot),
)
slots_are names p result (Some s) k = (
  λ e. touched (slice_get names k) refl (sym (has_positions (is_touched p s) names k) ∙ e),
  λ (slot, there). elim (Contains-append_cases (map position_of (register_effect names result)) (map position_of (stores_of names p s)) k
      (subst (λ (ks : List ℕ). Contains ks k) (map-append position_of (register_effect names result) (stores_of names p s)) there)) [
        | inl register ↦ absurd (register_place names result k register slot)
        | inr store ↦
            let (j, name, is, at, touched) = touched_there names p s 0 k names store in
            let same : j ≡ k = omega (arith, is) in
            has_name (is_touched p s) names k name (ap (slice_get names) (sym same) ∙ at) touched
      ],
)
  where
    slot_is : (name : Name) → is_touched p s name ≡ true → slice_get names k ≡ Some name → IsSlotAt names k
    slot_is (Register r) t at = cc
    slot_is (Slot q n) t at = (q, n, at)

    touched : (o : Option Name) → slice_get names k ≡ o → option_map_or (is_touched p s) o false ≡ true
        → IsSlotAt names k × Contains (map position_of (register_effect names result ++ slot_effect names p (Some s))) k
    touched None at t = cc
    touched (Some name) at t = (
      slot_is name t at,
      subst (λ (ks : List ℕ). Contains ks k) (sym (map-append position_of (register_effect names result) (stores_of names p s)))
          (Contains-append_right (map position_of (register_effect names result)) (map position_of (stores_of names p s)) k
          (subst (Contains (map position_of (stores_of names p s))) (omega arith) (stored_there names p s 0 k names name at t))),
    )

-- the slots that point i assigns
pub writes_slots : (points : List CodePoint) (offsets : List (Option ℕ)) (names : List Name) (i : ℕ) (c : CodePoint) (access : Option ℕ)
    (store : Option FrameStore) (set : ℕ) → ((r : ℕ) → r < 32 → IsOffset points c r (offset_at offsets i r)) → access ≡ access_of c.instr (offset_at offsets i)
    → store ≡ store_of c.instr access → set ≡ written names c.point.proc_entry store → WritesSlots points names c set
writes_slots points offsets names i c access store set exact accessed stored is = record {
  assigns = effect_of names c (offset_at offsets i);
  effect = record { offset = offset_at offsets i; offsets_are = exact; assigns_are = refl };
  slots = subst (AreSlotWrites names (effect_of names c (offset_at offsets i)))
      (sym (is ∙ ap (written names c.point.proc_entry) (stored ∙ ap (store_of c.instr) accessed)))
      (slots_are names c.point.proc_entry (result_of names c (access_of c.instr (offset_at offsets i))) (store_of c.instr (access_of c.instr (offset_at offsets i))));
}

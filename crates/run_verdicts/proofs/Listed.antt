-- The live slots, as watches list them.
use Rattle.std.proofs.Common.{◌≡◌, ℕ, zero, suc, ◌+◌, ◌==◌, Bool, true, false, List, [], ◌∷◌, filter_map, slice_get, Contains, Option, None, Some, inl, inr, refl, ap, sym, ◌∙◌, arith, subst, if◌then◌else◌}
use Rattle.std.specs.List.{cons_option, enumerate_from}
use Rattle.std.proofs.lemmas.Bool.{eq-eqb, eqb-true}
use Rattle.std.proofs.lemmas.List.Elements.{Contains-append_right}
use Rattle.flow_points.proofs.Cited.{cons_cases}
use Rattle.report_text.specs.declared.names.Name.{Name}
use Rattle.report_text.specs.declared.names.Name.TheVariants.{Register, Slot}
use Rattle.run_watch.specs.Activations.{slot_address, slot_in, slots_of}
use Rattle.run_watch.specs.declared.activation.Activation.{Activation as Watched}
use Rattle.run_watch.specs.declared.places.SlotAt.{SlotAt}

kept_option : {Y : Type 0} (o : Option Y) (ys : List Y) (y : Y) → Contains ys y → Contains (cons_option o ys) y
kept_option None ys y there = there
kept_option (Some z) ys y there = Contains-append_right (z ∷ []) ys y there

module _ (names : List Name) (depth : ℕ) (w : Watched) where
  abbrev pub slot_there : ℕ → ℕ → SlotAt
  slot_there k below = record { depth = depth; position = k; address = slot_address w below }

  own_slot : (k below : ℕ) → slot_in depth w (k, Slot w.procedure below) ≡ Some (slot_there k below)
  own_slot k below = ap (λ (b : Bool). if b then Some (slot_there k below) else None) (eq-eqb w.procedure w.procedure refl)

  first_listed : (o : Option SlotAt) (slots : List SlotAt) (slot : SlotAt) → o ≡ Some slot → Contains (cons_option o slots) slot
  first_listed None slots slot is = cc
  first_listed (Some s) slots slot is = (0, omega arith, (let same : s ≡ slot = cc in same))

  listed_from : (j : ℕ) (rest : List Name) (i below : ℕ) → slice_get rest i ≡ Some (Slot w.procedure below)
      → Contains (filter_map (slot_in depth w) (enumerate_from j rest)) (slot_there (j + i) below)
  listed_from j [] i below at = cc
  listed_from j (name ∷ rest) zero below at =
      let is : name ≡ Slot w.procedure below = cc in
      first_listed (slot_in depth w (j, name)) (filter_map (slot_in depth w) (enumerate_from (j + 1) rest))
      (slot_there (j + 0) below)
      (ap (λ (other : Name). slot_in depth w (j, other)) is ∙ own_slot j below
      ∙ ap (λ (k : ℕ). Some (slot_there k below)) (let e : j ≡ j + 0 = omega arith in e))
  listed_from j (name ∷ rest) (suc i) below at =
      kept_option (slot_in depth w (j, name)) (filter_map (slot_in depth w) (enumerate_from (j + 1) rest))
      (slot_there (j + suc i) below)
      (subst (λ (k : ℕ). Contains (filter_map (slot_in depth w) (enumerate_from (j + 1) rest)) (slot_there k below))
      (let e : j + 1 + i ≡ j + suc i = omega arith in e)
      (listed_from (j + 1) rest i below at))

  pub listed : (k below : ℕ) → slice_get names k ≡ Some (Slot w.procedure below)
      → Contains (slots_of names depth w) (slot_there k below)
  listed k below at =
      subst (λ (i : ℕ). Contains (slots_of names depth w) (slot_there i below)) (let e : 0 + k ≡ k = omega arith in e)
      (listed_from 0 names k below at)

  abbrev IsListed : ℕ → List Name → SlotAt → Type 0
  IsListed j rest slot = (i below : ℕ) × (slice_get rest i ≡ Some (Slot w.procedure below)) × (slot ≡ slot_there (j + i) below)

  later_listed : (j : ℕ) (name : Name) (rest : List Name) (slot : SlotAt) → IsListed (j + 1) rest slot
      → IsListed j (name ∷ rest) slot
  later_listed j name rest slot (i, below, at, is) =
      (suc i, below, at, is ∙ ap (λ (k : ℕ). slot_there k below) (let e : j + 1 + i ≡ j + suc i = omega arith in e))

  from_listed : (j : ℕ) (rest : List Name) (slot : SlotAt)
      → Contains (filter_map (slot_in depth w) (enumerate_from j rest)) slot → IsListed j rest slot
  from_listed j [] slot there = absurd (omega (arith, there.1))
  from_listed j (Register r ∷ rest) slot there = later_listed j (Register r) rest slot (from_listed (j + 1) rest slot there)
  from_listed j (Slot p below ∷ rest) slot there = by (p == w.procedure) refl (from_listed (j + 1) rest slot) there
    where
      by : (b : Bool) → (p == w.procedure) ≡ b
          → (Contains (filter_map (slot_in depth w) (enumerate_from (j + 1) rest)) slot → IsListed (j + 1) rest slot)
          → Contains (cons_option (if b then Some (slot_there j below) else None)
          (filter_map (slot_in depth w) (enumerate_from (j + 1) rest))) slot
          → IsListed j (Slot p below ∷ rest) slot
      by false other more there = later_listed j (Slot p below) rest slot (more there)
      by true own more there =
          elim (cons_cases (slot_there j below) (filter_map (slot_in depth w) (enumerate_from (j + 1) rest)) slot there) [
            | inl same ↦ (
              0,
              below,
              ap (λ (q : ℕ). Some (Slot q below)) (eqb-true p w.procedure own),
              sym same ∙ ap (λ (k : ℕ). slot_there k below) (let e : j ≡ j + 0 = omega arith in e),
            )
            | inr later ↦ later_listed j (Slot p below) rest slot (more later)
          ]

  pub is_listed : (slot : SlotAt) → Contains (slots_of names depth w) slot
      → (k below : ℕ) × (slice_get names k ≡ Some (Slot w.procedure below)) × (slot ≡ slot_there k below)
  is_listed slot there =
      let (k, below, at, is) = from_listed 0 names slot there in
      (k, below, at, is ∙ ap (λ (i : ℕ). slot_there i below) (let e : 0 + k ≡ k = omega arith in e))

-- The positions that the assignments of an instruction have.
use Rattle.std.proofs.Common.{◌≡◌, ◌∙◌, ℕ, zero, suc, ◌+◌, Bool, true, false, cond, ◌&&◌, ◌==◌, List, [], ◌∷◌, map, slice_get, Contains, Option, None, Some, inl, inr, refl, sym, ap, subst, arith, filter_map}
use Rattle.std.specs.List.{cons_option, enumerate_from}
use Rattle.std.specs.Option.{option_map_or}
use Rattle.std.proofs.lemmas.List.Elements.{Contains-append_right}
use Rattle.flow_points.proofs.Cited.{cons_cases}
use Rattle.affine_prog.specs.Assignments.{position_of}
use Rattle.affine_prog.specs.declared.Assign.{Assign}
use Rattle.affine_prog.specs.declared.Assign.TheVariants.{Affine, Any}
use Rattle.report_text.specs.declared.names.Name.{Name}
use Rattle.report_text.specs.declared.names.Name.TheVariants.{Register, Slot}
use Rattle.affine_lift.specs.declared.value.Value.{Value}
use Rattle.affine_lift.specs.declared.value.Value.TheVariants.{Linear, Held, Unknown}
use Rattle.affine_lift.specs.declared.store.FrameStore.{FrameStore}
use Rattle.affine_lift.specs.Values.{assigned, is_nameable, is_register, multiple, place_of, row_of}
use Rattle.affine_lift.specs.FrameSlots.{is_touched, is_whole, slot_offset, stored, stored_in, stored_word}
use Rattle.affine_lift.specs.Effects.{register_effect}
use Rattle.affine_lift.specs.Lifting.{IsSlotAt}
use Rattle.affine_lift.proofs.FirstPlaces.{position_within}

position_assigned : (names : List Name) (i : ℕ) (value : Value) → position_of (assigned names i value) ≡ i
position_assigned names i (Linear f g c) = by (is_nameable names f g f && is_nameable names f g g)
  where
    by : (b : Bool) → position_of (cond b (Affine i (row_of names f g c)) (Any i)) ≡ i
    by true = refl
    by false = refl
position_assigned names i (Held k) = refl
position_assigned names i Unknown = refl

position_stored : (names : List Name) (s : FrameStore) (k n : ℕ) → position_of (stored_word names s k n) ≡ k
position_stored names s k n = by (is_whole s.op && s.offset == slot_offset n)
  where
    by : (b : Bool) → position_of (cond b (assigned names k (multiple 1 s.register)) (Any k)) ≡ k
    by true = position_assigned names k (multiple 1 s.register)
    by false = refl

-- what is written to a register is at a register's position
pub register_place : (names : List Name) (result : Option (ℕ × Value)) (k : ℕ) → Contains (map position_of (register_effect names result)) k
    → IsSlotAt names k → ⊥
register_place names None k (i, below, is) slot = omega arith
register_place names (Some (r, value)) k there slot = by (place_of names r) refl there
  where
    by : (o : Option ℕ) → place_of names r ≡ o → Contains (map position_of (option_map_or (λ i. assigned names i value ∷ []) o [])) k → ⊥
    by None e (i, below, is) = omega arith
    by (Some i) e here =
        let found = position_within (is_register r) names i e in
        let same = elim (cons_cases (position_of (assigned names i value)) [] k here) as (λ _. i ≡ k) [
          | inl is ↦ sym (position_assigned names i value) ∙ is
          | inr (j, below, is) ↦ omega arith
        ] in
        no_slot found.0 (slot.0) (slot.1) found.2 (sym found.1 ∙ ap (slice_get names) same ∙ slot.2)
      where
        no_slot : (name : Name) (p n : ℕ) → is_register r name ≡ true → Some name ≡ Some (Slot p n) → ⊥
        no_slot (Register q) p n e same = cc
        no_slot (Slot q m) p n e same = cc

module _ (names : List Name) (p : ℕ) (s : FrameStore) where
  stored_some : (k : ℕ) (name : Name) → is_touched p s name ≡ true → (a : Assign) × (stored_in names p s k name ≡ Some a) × (position_of a ≡ k)
  stored_some k (Register r) touched = cc
  stored_some k (Slot q n) touched =
      (stored_word names s k n, ap (λ (b : Bool). cond b (Some (stored_word names s k n)) None) touched, position_stored names s k n)

  stored_from : (k : ℕ) (name : Name) (a : Assign) → stored_in names p s k name ≡ Some a → (is_touched p s name ≡ true) × (position_of a ≡ k)
  stored_from k (Register r) a e = cc
  stored_from k (Slot q n) a e = by (is_touched p s (Slot q n)) refl e
    where
      by : (b : Bool) → is_touched p s (Slot q n) ≡ b → cond b (Some (stored_word names s k n)) None ≡ Some a
          → (is_touched p s (Slot q n) ≡ true) × (position_of a ≡ k)
      by true t d = let same : stored_word names s k n ≡ a = cc in (t, ap position_of (sym same) ∙ position_stored names s k n)
      by false t d = cc

  onto : (o : Option Assign) (more : List Assign) (x : ℕ) → Contains (map position_of more) x → Contains (map position_of (cons_option o more)) x
  onto None more x there = there
  onto (Some a) more x there = Contains-append_right (position_of a ∷ []) (map position_of more) x there

  pub stored_there : (k j : ℕ) (rest : List Name) (name : Name) → slice_get rest j ≡ Some name → is_touched p s name ≡ true
      → Contains (map position_of (filter_map (stored names p s) (enumerate_from k rest))) (k + j)
  stored_there k j [] name at touched = cc
  stored_there k zero (name ∷ rest) other at touched =
      let same : other ≡ name = cc in
      let got = stored_some k name (subst (λ (n : Name). is_touched p s n ≡ true) same touched) in
      let here : position_of got.0 ≡ k + 0 = got.2 ∙ omega arith in
      subst (λ (o : Option Assign). Contains (map position_of (cons_option o (filter_map (stored names p s) (enumerate_from (k + 1) rest)))) (k + 0)) (sym got.1)
      (0, omega arith, here)
  stored_there k (suc j) (name ∷ rest) other at touched =
      onto (stored_in names p s k name) (filter_map (stored names p s) (enumerate_from (k + 1) rest)) (k + suc j)
      (subst (Contains (map position_of (filter_map (stored names p s) (enumerate_from (k + 1) rest)))) (omega arith) (stored_there (k + 1) j rest other at touched))

  abbrev pub Found : ℕ → ℕ → List Name → Type 0
  Found k x rest = (j : ℕ) × (name : Name) × (x ≡ k + j) × (slice_get rest j ≡ Some name) × (is_touched p s name ≡ true)

  first_found : (k x : ℕ) (name : Name) (rest : List Name) (o : Option Assign) → stored_in names p s k name ≡ o
      → (Contains (map position_of (filter_map (stored names p s) (enumerate_from (k + 1) rest))) x → Found (k + 1) x rest)
      → Contains (map position_of (cons_option o (filter_map (stored names p s) (enumerate_from (k + 1) rest)))) x → Found k x (name ∷ rest)
  first_found k x name rest None e later there = let (j, other, is, at, touched) = later there in (suc j, other, omega (arith, is), at, touched)
  first_found k x name rest (Some a) e later there =
      elim (cons_cases (position_of a) (map position_of (filter_map (stored names p s) (enumerate_from (k + 1) rest))) x there) [
        | inl is ↦ let from = stored_from k name a e in (0, name, sym is ∙ from.1 ∙ omega arith, refl, from.0)
        | inr more ↦ let (j, other, is, at, touched) = later more in (suc j, other, omega (arith, is), at, touched)
      ]

  pub touched_there : (k x : ℕ) (rest : List Name) → Contains (map position_of (filter_map (stored names p s) (enumerate_from k rest))) x → Found k x rest
  touched_there k x [] (i, below, is) = absurd (omega arith)
  touched_there k x (name ∷ rest) there = first_found k x name rest (stored_in names p s k name) refl (λ h. touched_there (k + 1) x rest h) there

-- What a store makes of the state of the last activation.
use Rattle.std.proofs.Common.{◌≡◌, ◌≢◌, ℕ, suc, ◌+◌, ◌*◌, ◌<◌, Bool, true, false, List, [], ◌∷◌, map, All, Contains, slice_get, slice_index, Option, None, Some, IfSome, inl, inr, refl, ap, sym, ◌∙◌, arith, subst, if◌then◌else◌, ◌==◌, ◌&&◌, add-zero, filter_map}
use Rattle.std.specs.List.{cons_option, enumerate_from}
use Rattle.std.proofs.lemmas.Bool.{cases_eq, eqb-true, ne_eqb, eq-eqb}
use Rattle.std.proofs.lemmas.List.Elements.{All-cons, All-head, All-nil, All-tail}
use Rattle.elf_image.specs.declared.image.Image.{Image}
use Rattle.word_rows.specs.Words.{word}
use Rattle.word_rows.specs.Rows.{IsRow}
use Rattle.map_modules.specs.Matrices.{sum_below, vector}
use Rattle.map_modules.proofs.Entries.{get_or-vector, IsRow-vector, vector_from_index}
use Rattle.map_modules.proofs.Products.{row_word}
use Rattle.affine_prog.specs.Assignments.{constant, position_of}
use Rattle.affine_prog.specs.declared.Assign.{Assign}
use Rattle.affine_prog.specs.declared.Assign.TheVariants.{Affine, Any}
use Rattle.flow_points.proofs.Cited.{cons_cases}
use Rattle.report_text.specs.declared.names.Name.{Name}
use Rattle.report_text.specs.declared.names.Name.TheVariants.{Register, Slot}
use Rattle.affine_lift.specs.declared.store.FrameStore.{FrameStore}
use Rattle.affine_lift.specs.FrameSlots.{is_whole, slot_offset, stored, stored_in, stored_word, stores_of, touches, width_of}
use Rattle.affine_lift.specs.Values.{is_nameable, no_term, row_of, term}
use Rattle.run_paths.specs.Lifts.{Lift, IsLiftOf}
use Rattle.run_paths.specs.Maps.{with_word}
use Rattle.run_paths.proofs.States.{HasRegisters, below_16}
use Rattle.run_paths.proofs.Writing.{constant_picks}
use Rattle.run_paths.proofs.Sums.{row_told}
use Rattle.run_paths.proofs.Landing.{Lands}

-- where no assignment is made, two rows agree
abbrev Agree : List Assign → List ℕ → List ℕ → Type 0
Agree assigns s t = (k : ℕ) → k < 17 → (Contains (map position_of assigns) k → ⊥) → slice_index s k ≡ slice_index t k

module _ (image : Image) (lift : Lift) (is : IsLiftOf image lift) (regs t : List ℕ) (zero_is : slice_index regs 0 ≡ 0) (t_row : IsRow 17 t) where
  abbrev pub IsSlotPlace : ℕ → Type 0
  IsSlotPlace k = (p below : ℕ) × (slice_get lift.names k ≡ Some (Slot p below))

  -- an assignment to a slot that gives it its word in t
  abbrev pub IsRight : Assign → Type 0
  IsRight (Affine k row) =
      IsSlotPlace k
      × ((s : List ℕ) → HasRegisters lift regs s → word (sum_below 17 (λ l. slice_index row l * slice_index s l)) ≡ slice_index t k)
  IsRight (Any k) = IsSlotPlace k

  slot_low : (k : ℕ) → IsSlotPlace k → k < 16
  slot_low k slot = below_16 image lift is k (Slot slot.0 slot.1) slot.2

  there : (k : ℕ) (row s : List ℕ) (j : ℕ) → j < 17
      → slice_index (with_word k row s) j ≡ word (if j == k then sum_below 17 (λ l. slice_index row l * slice_index s l) else slice_index s j)
  there k row s j below = get_or-vector _ j below

  elsewhere : (k : ℕ) (row s : List ℕ) (j : ℕ) → IsRow 17 s → j < 17 → j ≢ k → slice_index (with_word k row s) j ≡ slice_index s j
  elsewhere k row s j s_row below other =
      there k row s j below
      ∙ ap (λ (b : Bool). word (if b then sum_below 17 (λ l. slice_index row l * slice_index s l) else slice_index s j)) (ne_eqb j k other)
      ∙ row_word 17 s s_row j

  keeps_registers : (k : ℕ) (row s : List ℕ) → IsSlotPlace k → IsRow 17 s → HasRegisters lift regs s → HasRegisters lift regs (with_word k row s)
  keeps_registers k row s slot s_row has =
      let low = slot_low k slot in
      record {
        words = λ j r below at.
            elsewhere k row s j s_row below (λ same. let here = sym at ∙ ap (slice_get lift.names) same ∙ slot.2 in cc) ∙ has.words j r below at;
        constant = elsewhere k row s 16 s_row (omega arith) (λ same. omega arith) ∙ has.constant;
      }

  agree_more : (assign : Assign) (rest : List Assign) (row s : List ℕ) → IsRow 17 s
      → word (sum_below 17 (λ l. slice_index row l * slice_index s l)) ≡ slice_index t (position_of assign)
      → Agree (assign ∷ rest) s t → Agree rest (with_word (position_of assign) row s) t
  agree_more assign rest row s s_row sum agree j below absent =
      elim (cases_eq j (position_of assign)) [
        | inl same ↦
            there (position_of assign) row s j below
            ∙ ap (λ (b : Bool). word (if b then sum_below 17 (λ l. slice_index row l * slice_index s l) else slice_index s j)) (eq-eqb j (position_of assign) same)
            ∙ sum ∙ ap (slice_index t) (sym same)
        | inr other ↦
            elsewhere (position_of assign) row s j s_row below other
            ∙ agree j below (λ there. elim (cons_cases (position_of assign) (map position_of rest) j there) [
              | inl here ↦ other (sym here)
              | inr later ↦ absent later
            ])
      ]

  any_word : (k : ℕ) (s : List ℕ) → HasRegisters lift regs s
      → word (sum_below 17 (λ l. slice_index (constant (slice_index t k)) l * slice_index s l)) ≡ slice_index t k
  any_word k s has = constant_picks (slice_index t k) s has.constant ∙ row_word 17 t t_row k

  pub slots_land : (assigns : List Assign) (s : List ℕ) → IsRow 17 s → HasRegisters lift regs s → All IsRight assigns → Agree assigns s t → Lands assigns s t
  slots_land [] s s_row has right agree = same_rows s t s_row t_row (λ k below. agree k below (λ none. omega (arith, none.1)))
    where
      same_rows : (u v : List ℕ) → IsRow 17 u → IsRow 17 v → ((k : ℕ) → k < 17 → slice_index u k ≡ slice_index v k) → u ≡ v
      same_rows u v u_row v_row same =
          let vector_of : (w : List ℕ) → IsRow 17 w → w ≡ vector (slice_index w)
          = λ w w_row. vector_from_index w (slice_index w) w_row.width (λ k below. sym (row_word 17 w w_row k)) in
          vector_from_index u (slice_index v) u_row.width (λ k below. same k below ∙ sym (row_word 17 v v_row k)) ∙ sym (vector_of v v_row)
  slots_land (Affine k row ∷ rest) s s_row has right agree =
      let first = All-head IsRight (Affine k row) rest right in
      slots_land rest (with_word k row s) (IsRow-vector _) (keeps_registers k row s first.0 s_row has) (All-tail IsRight (Affine k row) rest right)
      (agree_more (Affine k row) rest row s s_row (first.1 s has) agree)
  slots_land (Any k ∷ rest) s s_row has right agree =
      let first = All-head IsRight (Any k) rest right in
      slots_land rest (with_word k (constant (slice_index t k)) s) (IsRow-vector _) (keeps_registers k (constant (slice_index t k)) s first s_row has)
      (All-tail IsRight (Any k) rest right) (agree_more (Any k) rest (constant (slice_index t k)) s s_row (any_word k s has) agree)

  -- the assignments of a store
  module _ (p : ℕ) (store : FrameStore)
      (whole : (k n : ℕ) → slice_get lift.names k ≡ Some (Slot p n) → is_whole store.op ≡ true → store.offset ≡ slot_offset n
      → slice_index t k ≡ word (slice_index regs store.register)) where
    whole_right : (k n : ℕ) → slice_get lift.names k ≡ Some (Slot p n) → (b : Bool) → (is_whole store.op && store.offset == slot_offset n) ≡ b
        → IsRight (if b then (if is_nameable lift.names (term 1 store.register) no_term (term 1 store.register)
        && is_nameable lift.names (term 1 store.register) no_term no_term
        then Affine k (row_of lift.names (term 1 store.register) no_term 0) else Any k) else Any k)
    whole_right k n at false e = (p, n, at)
    whole_right k n at true e =
        by (is_nameable lift.names (term 1 store.register) no_term (term 1 store.register) && is_nameable lift.names (term 1 store.register) no_term no_term) refl
      where
        both : (a b : Bool) → (a && b) ≡ true → (a ≡ true) × (b ≡ true)
        both true b e = (refl, e)
        both false b e = cc

        one : (x y : ℕ) → 1 * x + 0 * y + 0 ≡ x
        one x y = omega arith

        by : (b : Bool)
            → (is_nameable lift.names (term 1 store.register) no_term (term 1 store.register) && is_nameable lift.names (term 1 store.register) no_term no_term) ≡ b
            → IsRight (if b then Affine k (row_of lift.names (term 1 store.register) no_term 0) else Any k)
        by false nameable = (p, n, at)
        by true nameable =
            let h = both (is_whole store.op) (store.offset == slot_offset n) e in (
              (p, n, at),
              λ s has.
                  row_told image lift is regs s has (term 1 store.register) no_term 0 zero_is nameable
                  ∙ ap word (one (slice_index regs store.register) (slice_index regs 0))
                  ∙ sym (whole k n at h.0 (eqb-true store.offset (slot_offset n) h.1)),
            )

    stored_right : (k : ℕ) (name : Name) → slice_get lift.names k ≡ Some name → IfSome (stored_in lift.names p store k name) IsRight
    stored_right k (Register r) at = tt
    stored_right k (Slot q n) at = by (q == p) (touches (width_of store.op) store.offset n) refl
      where
        by : (own touched : Bool) → (q == p) ≡ own
            → IfSome (if own && touched then Some (stored_word lift.names store k n) else None) IsRight
        by false touched e = tt
        by true false e = tt
        by true true e =
            whole_right k n (at ∙ ap (λ (x : ℕ). Some (Slot x n)) (eqb-true q p e)) (is_whole store.op && store.offset == slot_offset n) refl

    stores_right : (k : ℕ) (rest : List Name)
        → ((j : ℕ) (name : Name) → slice_get rest j ≡ Some name → slice_get lift.names (k + j) ≡ Some name)
        → All IsRight (filter_map (stored lift.names p store) (enumerate_from k rest))
    stores_right k [] at = All-nil IsRight
    stores_right k (name ∷ rest) at =
        one (stored_in lift.names p store k name) (stored_right k name (subst (λ (j : ℕ). slice_get lift.names j ≡ Some name) (add-zero k) (at 0 name refl)))
        (stores_right (k + 1) rest (λ j other there. subst (λ (i : ℕ). slice_get lift.names i ≡ Some other) (omega arith) (at (suc j) other there)))
      where
        one : (o : Option Assign) → IfSome o IsRight → All IsRight (filter_map (stored lift.names p store) (enumerate_from (k + 1) rest))
            → All IsRight (cons_option o (filter_map (stored lift.names p store) (enumerate_from (k + 1) rest)))
        one None right all = all
        one (Some assign) right all = All-cons IsRight assign _ right all

    pub store_right : All IsRight (stores_of lift.names p store)
    store_right = stores_right 0 lift.names (λ j name there. subst (λ (i : ℕ). slice_get lift.names i ≡ Some name) (omega arith) there)

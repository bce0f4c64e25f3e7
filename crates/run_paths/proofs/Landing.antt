-- What an assignment to a register makes of the state of the last activation.
use Rattle.std.proofs.Common.{◌≡◌, ◌≢◌, ℕ, ◌*◌, ◌<◌, Bool, true, false, List, [], ◌∷◌, length, slice_get, slice_index, Option, None, Some, refl, ap, ◌∙◌, arith, subst, if◌then◌else◌, ◌&&◌}
use Rattle.std.specs.Option.{option_map_or}
use Rattle.std.proofs.lemmas.Option.{get_or_from_slice_get, slice_get_within}
use Rattle.elf_image.specs.declared.image.Image.{Image}
use Rattle.word_rows.specs.Words.{word}
use Rattle.word_rows.specs.Rows.{unit}
use Rattle.map_modules.specs.Matrices.{sum_below}
use Rattle.affine_prog.specs.Assignments.{constant}
use Rattle.affine_prog.specs.declared.Assign.{Assign}
use Rattle.affine_prog.specs.declared.Assign.TheVariants.{Affine, Any}
use Rattle.report_text.specs.Names.{IsName}
use Rattle.report_text.specs.declared.names.Name.{Name}
use Rattle.report_text.specs.declared.names.Name.TheVariants.{Register}
use Rattle.rv_step.specs.Effects.{written}
use Rattle.affine_lift.specs.declared.value.Value.{Value}
use Rattle.affine_lift.specs.declared.value.Value.TheVariants.{Linear, Held, Unknown}
use Rattle.affine_lift.specs.Values.{assigned, is_nameable, place_of, row_of}
use Rattle.affine_lift.specs.Effects.{register_effect}
use Rattle.run_paths.specs.Lifts.{Lift, IsLiftOf}
use Rattle.run_paths.specs.Activations.{Activation, word_of, state_of}
use Rattle.run_paths.specs.Follows.{chosen}
use Rattle.run_paths.specs.Maps.{changed, with_word}
use Rattle.run_paths.proofs.States.{name_word, state_there, state_constant, state_has, below_16}
use Rattle.run_paths.proofs.Writing.{constant_picks, unit_picks, untracked_lands, tracked_lands, place_is, place_none, written_same}
use Rattle.run_paths.proofs.Sums.{row_told}
use Rattle.run_paths.proofs.Results.{Gives}

-- the assignments lead from the state s to t, under the choice that t shows
abbrev pub Lands : List Assign → List ℕ → List ℕ → Type 0
Lands assigns s t = changed assigns (chosen assigns t) s ≡ t

pub allowed_register : (image : Image) (lift : Lift) → IsLiftOf image lift → (k r : ℕ) → slice_get lift.names k ≡ Some (Register r)
    → (r ≢ 0) × (r < 32)
allowed_register image lift is k r at =
    let within = slice_get_within lift.names k (Register r) at in
    let here = get_or_from_slice_get lift.names k (Register r) (Register r) at in
    let name = subst IsName here (is.allowed k (Register r) within) in
    ((λ e. omega (arith, name.0)), name.1)

module _ (image : Image) (lift : Lift) (is : IsLiftOf image lift) (a : Activation) (regs : List ℕ) (memory : ℕ → ℕ) (count : length regs ≡ 32)
    (zero_is : slice_index regs 0 ≡ 0) (r w : ℕ) where
  abbrev pub before : List ℕ
  before = state_of lift a regs memory

  abbrev pub after : List ℕ
  after = state_of lift a (written regs r w) memory

  module _ (i : ℕ) (at : slice_get lift.names i ≡ Some (Register r)) where
    allowed : (r ≢ 0) × (r < 32)
    allowed = allowed_register image lift is i r at

    row_lands : (row : List ℕ) → word (sum_below 17 (λ l. slice_index row l * slice_index before l)) ≡ word w → with_word i row before ≡ after
    row_lands row sum = tracked_lands image lift is a regs memory r w i row at allowed.0 (omega (arith, allowed.1, count)) sum

    any_lands : with_word i (constant (slice_index after i)) before ≡ after
    any_lands =
        let low = below_16 image lift is i (Register r) at in
        let now : slice_index after i ≡ word w =
        state_there lift a (written regs r w) memory i low ∙ ap (λ (o : Option Name). word (name_word a (written regs r w) memory o)) at
        ∙ ap word (written_same regs r w allowed.0 (omega (arith, allowed.1, count))) in
        row_lands (constant (slice_index after i)) (constant_picks (slice_index after i) before (state_constant lift a regs memory) ∙ ap word now ∙ wrapped w)
      where
        wrapped : (n : ℕ) → word (word n) ≡ word n
        wrapped n = omega arith

    assigned_lands : (value : Value) → Gives lift.names a regs memory value w → Lands (assigned lift.names i value ∷ []) before after
    assigned_lands (Linear f g c) gives = by (is_nameable lift.names f g f && is_nameable lift.names f g g) refl
      where
        by : (b : Bool) → (is_nameable lift.names f g f && is_nameable lift.names f g g) ≡ b
            → Lands ((if b then Affine i (row_of lift.names f g c) else Any i) ∷ []) before after
        by true e =
            row_lands (row_of lift.names f g c)
            (row_told image lift is regs before (state_has image lift is a regs memory) f g c zero_is e ∙ gives)
        by false e = any_lands
    assigned_lands (Held k) gives =
        let low = below_16 image lift is k gives.0 gives.1 in
        row_lands (unit 17 k) (unit_picks k before (omega arith)
        ∙ ap word (state_there lift a regs memory k low ∙ ap (λ (o : Option Name). word (name_word a regs memory o)) gives.1)
        ∙ wrapped (word_of a regs memory gives.0) ∙ gives.2)
      where
        wrapped : (n : ℕ) → word (word n) ≡ word n
        wrapped n = omega arith
    assigned_lands Unknown gives = any_lands

  pub register_lands : (value : Value) → Gives lift.names a regs memory value w → Lands (register_effect lift.names (Some (r, value))) before after
  register_lands value gives = by (place_of lift.names r) refl
    where
      by : (o : Option ℕ) → place_of lift.names r ≡ o → Lands (option_map_or (λ i. assigned lift.names i value ∷ []) o []) before after
      by None place = untracked_lands image lift is a regs memory r w (λ k at. place_none lift.names r k place at)
      by (Some i) place = assigned_lands i (place_is lift.names r i place) value gives

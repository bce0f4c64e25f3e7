-- The link of a call.
use Rattle.std.proofs.Common.{◌≡◌, ℕ, List, [], ◌∷◌, ◌++◌, length, ◌+◌, ◌*◌, ◌%◌, ◌^◌, slice_index, Option, None, Some, refl, ap, sym, ◌∙◌, arith, subst}
use Rattle.std.specs.Option.{option_map_or}
use Rattle.std.proofs.lemmas.List.{append-nil}
use Rattle.elf_image.specs.declared.image.Image.{Image}
use Rattle.word_rows.specs.Rows.{IsRow}
use Rattle.affine_prog.specs.Assignments.{Choice, unknown_count}
use Rattle.affine_prog.specs.declared.Assign.{Assign}
use Rattle.flow_points.specs.declared.code_points.CodePoint.{CodePoint}
use Rattle.report_text.specs.declared.names.Name.{Name}
use Rattle.rv_step.specs.Effects.{written}
use Rattle.affine_lift.specs.Values.{assigned, constant, place_of}
use Rattle.affine_lift.specs.Effects.{register_effect}
use Rattle.run_paths.specs.Lifts.{Lift, IsLiftOf, effect}
use Rattle.run_paths.specs.Activations.{Activation, state_of}
use Rattle.run_paths.specs.Follows.{chosen}
use Rattle.run_paths.specs.Maps.{changed}
use Rattle.run_paths.proofs.Landing.{register_lands}

-- the effect of a call sets ra to the address behind it
abbrev pub Links : Lift → CodePoint → ℕ → Type 0
Links lift c next = effect lift c ≡ register_effect lift.names (Some (1, constant next)) ++ []

no_choice : (names : List Name) (r w : ℕ) (t : List ℕ) → chosen (register_effect names (Some (r, constant w))) t ≡ []
no_choice names r w t = by (place_of names r)
  where
    by : (o : Option ℕ) → chosen (option_map_or (λ i. assigned names i (constant w) ∷ []) o []) t ≡ []
    by None = refl
    by (Some i) = refl

none_unknown : (names : List Name) (r w : ℕ) → unknown_count (register_effect names (Some (r, constant w))) ≡ 0
none_unknown names r w = by (place_of names r)
  where
    by : (o : Option ℕ) → unknown_count (option_map_or (λ i. assigned names i (constant w) ∷ []) o []) ≡ 0
    by None = refl
    by (Some i) = refl

pub link_choice : (lift : Lift) (c : CodePoint) (next : ℕ) → Links lift c next → Choice (effect lift c) []
link_choice lift c next links =
    let same = links ∙ append-nil (register_effect lift.names (Some (1, constant next))) in
    subst (λ (n : ℕ). IsRow n []) (sym (ap unknown_count same ∙ none_unknown lift.names 1 next)) (record { width = refl; words = refl })

module _ (image : Image) (lift : Lift) (is : IsLiftOf image lift) where
  pub link_acts : (c : CodePoint) (next : ℕ) (b : Activation) (regs : List ℕ) (memory : ℕ → ℕ) → Links lift c next → length regs ≡ 32
      → slice_index regs 0 ≡ 0 → changed (effect lift c) [] (state_of lift b regs memory) ≡ state_of lift b (written regs 1 next) memory
  link_acts c next b regs memory links count zero_is =
      let assigns = register_effect lift.names (Some (1, constant next)) in
      let before = state_of lift b regs memory in
      let after = state_of lift b (written regs 1 next) memory in
      ap (λ (list : List Assign). changed list [] before) (links ∙ append-nil assigns)
      ∙ ap (λ (words : List ℕ). changed assigns words before) (sym (no_choice lift.names 1 next after))
      ∙ register_lands image lift is b regs memory count zero_is 1 next (constant next) (gives next (slice_index regs 0))
    where
      gives : (c x : ℕ) → (0 * x + 0 * x + c) % 2 ^ 64 ≡ c % 2 ^ 64
      gives c x = ap (λ (n : ℕ). n % 2 ^ 64) (let e : 0 * x + 0 * x + c ≡ c = omega arith in e)

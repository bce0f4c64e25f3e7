-- What assignments make of a matrix under any choice is a combination of what they make of it under simple choices.
use Rattle.std.proofs.Common.{◌≡◌, ℕ, ◌-◌, ◌^◌, ◌<◌, inl, inr, List, [], ◌∷◌, get_or, Contains, refl, ap, subst, ◌∙◌, arith}
use Rattle.std.proofs.lemmas.List.{get_or_default}
use Rattle.std.proofs.lemmas.List.Elements.{All-contains}
use Rattle.word_rows.specs.Rows.{words_of, plus, unit, IsRow}
use Rattle.word_rows.proofs.Laws.{IsRow-zeros, IsRow-unit}
use Rattle.row_modules.specs.Modules.{AreRows, IsCombination}
use Rattle.row_modules.specs.Choices.{IsChoice}
use Rattle.row_modules.proofs.Laws.{combinations, generator, module_least, first_or_later, less_first, choice_row, choices_span}
use Rattle.map_modules.proofs.Lemmas.{IsRow-matrix}
use Rattle.affine_prog.specs.declared.Assign.{Assign}
use Rattle.affine_prog.specs.Assignments.{unknown_count, Choice}
use Rattle.affine_prog.specs.LevelPaths.{step_map}
use Rattle.affine_prog.specs.Laws.{zero_choice, IsAffineInChoices}
use Rattle.affine_prog.proofs.Lemmas.{ArePlaced, step_is_affine_in_choices}
use Rattle.proof_rules.specs.Simple.{IsSimple, IsSimpleStep}

-- simple choices are choices
pub simple_choice : (n : ℕ) (words : List ℕ) → IsSimple n words → IsRow n words
simple_choice n words (inl e) = rw e (IsRow-zeros n)
simple_choice n words (inr (k, within, e)) = rw e (IsRow-unit n k)

pub simple_rows : (assigns : List Assign) (m : List ℕ) → AreRows 289 (IsSimpleStep assigns m)
simple_rows assigns m n (words, simple, is) = rw is (IsRow-matrix _)

module _ (assigns : List Assign) (m : List ℕ) (placed : ArePlaced assigns) (row : IsRow 289 m) where
  abbrev count : ℕ
  count = unknown_count assigns

  affine : IsAffineInChoices assigns m
  affine = step_is_affine_in_choices assigns m placed row

  abbrev S : List ℕ → Type 0
  S = IsCombination 289 (IsSimpleStep assigns m)

  abbrev start : List ℕ
  start = step_map assigns (zero_choice count) m

  start_row : IsRow 289 start
  start_row = IsRow-matrix _

  difference_rows : AreRows 289 (Contains affine.differences)
  difference_rows v h = All-contains (IsRow 289) affine.differences v affine.rows h

  start_in : S start
  start_in = generator 289 (IsSimpleStep assigns m) (simple_rows assigns m) start (zero_choice count, inl refl, refl)

  difference_in : (v : List ℕ) → Contains affine.differences v → S v
  difference_in v (k, below, is) =
      let within : k < count = omega (arith, affine.one_each) in
      let same : get_or affine.differences k [] ≡ v = get_or_default affine.differences k [] v below ∙ is in
      let made = generator 289 (IsSimpleStep assigns m) (simple_rows assigns m) (step_map assigns (unit count k) m) (unit count k, inr (k, within, refl), refl) in
      let sum : S (words_of (plus 1 start v)) = subst S (affine.units k within ∙ ap (λ d. words_of (plus 1 start d)) same) made in
      subst S (less_first 289 start v start_row (difference_rows v (k, below, is)))
      ((combinations 289 (IsSimpleStep assigns m) (simple_rows assigns m)).sum (2 ^ 64 - 1) (words_of (plus 1 start v)) start sum start_in)

  pub step_from_simple : (words : List ℕ) → Choice assigns words → S (step_map assigns words m)
  step_from_simple words choice =
      let chosen = (affine.choices (step_map assigns words m)).0 (words, choice, refl) in
      module_least 289 S (combinations 289 (IsSimpleStep assigns m) (simple_rows assigns m)) (Contains (start ∷ affine.differences))
      (λ v h. elim (first_or_later start affine.differences v h) [ inl e ↦ rw e start_in | inr k ↦ difference_in v k ])
      (step_map assigns words m)
      ((choices_span 289 start start_row affine.differences difference_rows).there (step_map assigns words m)
      (generator 289 (IsChoice start affine.differences) (choice_row 289 start start_row affine.differences difference_rows) (step_map assigns words m) chosen))

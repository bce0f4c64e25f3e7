-- What a list makes under all choices are the choices of fixed differences.
use Rattle.std.proofs.Common.{◌≡◌, ℕ, List, [], length, get_or, refl, ap, sym, subst, ◌∙◌}
use Rattle.word_rows.specs.Rows.{words_of, plus, IsRow}
use Rattle.row_modules.specs.Choices.{IsChoice}
use Rattle.affine_prog.specs.declared.Assign.{Assign}
use Rattle.affine_prog.specs.Assignments.{unknown_count, made, IsMadeOf}
use Rattle.affine_prog.specs.Laws.{zero_choice, IsAffineInChoices}
use Rattle.affine_prog.proofs.Combined.{combined, combined_is_choice, choice_is_combined}
use Rattle.affine_prog.proofs.Choices.{ArePlaced, differences_of, length-differences_of, differences_are_rows, made-combined, under_zeros, under_unit}

module _ (k : ℕ) (assigns : List Assign) (v : List ℕ) (placed : ArePlaced assigns) where
  abbrev start : List ℕ
  start = made k assigns (zero_choice (unknown_count assigns)) v

  under_words : (words : List ℕ) → length words ≡ unknown_count assigns → made k assigns words v ≡ combined start words (differences_of k assigns v)
  under_words words long =
      made-combined k assigns words v placed long ∙ ap (λ s. combined s words (differences_of k assigns v)) (under_zeros k assigns v)

  pub made_is_choice : (w : List ℕ) → IsMadeOf k assigns v w → IsChoice start (differences_of k assigns v) w
  made_is_choice w (words, choice, is) =
      rw (is, under_words words choice.width) (combined_is_choice start words (differences_of k assigns v) (choice.width ∙ sym (length-differences_of k assigns v)))

  pub choice_is_made : (w : List ℕ) → IsChoice start (differences_of k assigns v) w → IsMadeOf k assigns v w
  choice_is_made w c =
      let (words, row, is) = choice_is_combined start (differences_of k assigns v) w c in
      let choice = subst (λ n. IsRow n words) (length-differences_of k assigns v) row in
      (words, choice, is ∙ sym (under_words words choice.width))

pub step_is_affine_in_choices : (assigns : List Assign) (m : List ℕ) → ArePlaced assigns → IsRow 289 m → IsAffineInChoices assigns m
step_is_affine_in_choices assigns m placed row = record {
  differences = differences_of 17 assigns m;
  one_each = length-differences_of 17 assigns m;
  rows = differences_are_rows 17 assigns m;
  choices = λ n. (made_is_choice 17 assigns m placed n, choice_is_made 17 assigns m placed n);
  units = λ k within. under_unit 17 assigns m (unknown_count assigns) k placed refl within
      ∙ ap (λ s. words_of (plus 1 s (get_or (differences_of 17 assigns m) k []))) (under_zeros 17 assigns m);
}

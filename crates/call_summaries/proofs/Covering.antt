-- What an edge makes of images: it is sound, and spans what the edge makes under all choices.
use Rattle.std.proofs.Common.{ℕ, List, Contains, refl, arith}
use Rattle.word_rows.specs.Rows.{IsRow}
use Rattle.row_modules.specs.Modules.{IsCombination, IsModule}
use Rattle.row_modules.proofs.Laws.{generator, mapped_into, module_least}
use Rattle.map_modules.specs.Matrices.{product, linear_extension}
use Rattle.affine_prog.specs.declared.Program.{Program}
use Rattle.affine_prog.specs.declared.Assign.{Assign}
use Rattle.affine_prog.specs.declared.Kind.TheVariants.{Do, Call}
use Rattle.affine_prog.specs.Programs.{edge, exit_of, slots_of, owner_of, IsWellFormed}
use Rattle.affine_prog.specs.Assignments.{Choice, matrix_of}
use Rattle.affine_prog.specs.LevelPaths.{step_map}
use Rattle.affine_prog.specs.Laws.{linear_call_map, IsStepOf}
use Rattle.affine_prog.proofs.Lemmas.{ArePlaced}
use Rattle.call_summaries.specs.Sound.{IsSound}
use Rattle.row_images.specs.Images.{AreImages, IsConstantRow, images_of}
use Rattle.row_images.proofs.Laws.{made_are_rows, are_images}
use Rattle.call_summaries.proofs.Soundness.{sound_modules, step_sound, call_sound, product_is_linear}

module _ (assigns : List Assign) (placed : ArePlaced assigns) (m : List ℕ) (row : IsRow 289 m) (constant : IsConstantRow 17 m) where
  abbrev images : List (List ℕ)
  images = images_of 17 assigns m

  good : AreImages 17 assigns m images
  good = are_images 17 (omega arith) assigns m placed row constant

  image_in : (x : List ℕ) → Contains images x → IsCombination 289 (IsStepOf assigns m) x
  image_in x h = good.same.there x (generator 289 (Contains images) good.rows x h)

  choice_in : (words : List ℕ) → Choice assigns words → IsCombination 289 (Contains images) (step_map assigns words m)
  choice_in words choice = good.same.back (step_map assigns words m) (generator 289 (IsStepOf assigns m) (made_are_rows 17 assigns m) (step_map assigns words m) (words, choice, refl))

  pub image_is_row : (x : List ℕ) → Contains images x → IsRow 289 x
  image_is_row x h = good.rows x h

  -- a module that has the images has what the list makes under each choice
  pub step_covered : (S : List ℕ → Type 0) → IsModule 289 S → ((x : List ℕ) → Contains images x → S x) → (words : List ℕ) → Choice assigns words → S (step_map assigns words m)
  step_covered S is_module h words choice = module_least 289 S is_module (Contains images) h (step_map assigns words m) (choice_in words choice)

  pub call_covered : (registers slots : ℕ) (S : List ℕ → Type 0) → IsModule 289 S → (callee : List ℕ) → ((x : List ℕ) → Contains images x → S (product (linear_extension registers slots callee) x))
      → (words : List ℕ) → Choice assigns words → S (linear_call_map registers slots (matrix_of assigns words) callee m)
  call_covered registers slots S is_module callee h words choice =
      mapped_into 289 289 (product (linear_extension registers slots callee)) (product_is_linear (linear_extension registers slots callee)) (Contains images) S good.rows is_module h (step_map assigns words m) (choice_in words choice)

  module _ (program : Program) (formed : IsWellFormed program) where
    pub image_sound : (u v : ℕ) (x : List ℕ) → Contains program.edges (edge u v (Do assigns)) → IsSound program u m → Contains images x → IsSound program v x
    image_sound u v x contains c h =
        module_least 289 (IsSound program v) (sound_modules program formed v) (IsStepOf assigns m)
        (λ y (words, choice, is). rw is (step_sound program formed u v assigns words m contains choice c)) x (image_in x h)

    pub called_sound : (q u v : ℕ) (callee x : List ℕ) → Contains program.edges (edge u v (Call q assigns)) → IsSound program (exit_of program q) callee → IsSound program u m → Contains images x
        → IsSound program v (product (linear_extension program.registers (slots_of program (owner_of program u)) callee) x)
    called_sound q u v callee x contains g c h =
        let e = linear_extension program.registers (slots_of program (owner_of program u)) callee in
        mapped_into 289 289 (product e) (product_is_linear e) (IsStepOf assigns m) (IsSound program v) (made_are_rows 17 assigns m) (sound_modules program formed v)
        (λ y (words, choice, is). rw is (call_sound program formed q u v assigns words callee m contains choice g c)) x (image_in x h)

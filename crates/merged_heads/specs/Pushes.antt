-- What an edge makes of a module of states.
--
--   MakesOf assigns rows w          w is what the matrix of the assignments, under some choice, makes of a combination of the rows
--   IsBasisOf P rows                the rows are a leading-position basis of the module of P
--   CountsBases P before after      the counter rose by at most the length of a basis of the module of P
use Rattle.std.specs.Prelude.{ℕ, ◌+◌, ◌≤◌, List, Contains}
use Rattle.row_modules.specs.Modules.{IsCombination, SameModule}
use Rattle.row_modules.specs.Maps.{Products}
use Rattle.row_modules.specs.Bases.{IsLeadingBasis, basis_length}
use Rattle.map_modules.specs.Matrices.{apply}
use Rattle.affine_prog.specs.declared.Assign.{Assign}
use Rattle.row_images.specs.States.{IsMatrixOf}

abbrev pub MakesOf : List Assign → List (List ℕ) → List ℕ → Type 0
MakesOf assigns rows w = Products apply (IsMatrixOf assigns) (IsCombination 17 (Contains rows)) w

pub record IsBasisOf (P : List ℕ → Type 0) (rows : List (List ℕ)) : Type 0 where
  pub is_basis : IsLeadingBasis 17 rows
  pub same : SameModule 17 (Contains rows) P

abbrev pub CountsBases : (List ℕ → Type 0) → ℕ → ℕ → Type 0
CountsBases P before after = (rows : List (List ℕ)) → IsBasisOf P rows → after ≤ before + basis_length rows

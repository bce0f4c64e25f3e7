-- What sets of maps make of states.
--
--   IsMatrixOf assigns m     m is the matrix of the assignments under some choice
--   Makes M v w              a map of M makes the row w of the row v
--   Spans rows P             rows of 17 words that generate the module of P
use Rattle.std.specs.Prelude.{◌≡◌, ℕ, List, Contains}
use Rattle.row_modules.specs.Modules.{AreRows, SameModule}
use Rattle.map_modules.specs.Matrices.{apply}
use Rattle.affine_prog.specs.declared.Assign.{Assign}
use Rattle.affine_prog.specs.Assignments.{Choice, matrix_of}

abbrev pub IsMatrixOf : List Assign → List ℕ → Type 0
IsMatrixOf assigns m = (words : List ℕ) × Choice assigns words × (m ≡ matrix_of assigns words)

abbrev pub Makes : (List ℕ → Type 0) → List ℕ → List ℕ → Type 0
Makes M v w = (m : List ℕ) × M m × (w ≡ apply m v)

pub record Spans (rows : List (List ℕ)) (P : List ℕ → Type 0) : Type 0 where
  pub rows_are : AreRows 17 (Contains rows)
  pub same : SameModule 17 (Contains rows) P

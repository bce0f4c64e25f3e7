-- What a list of assignments makes of a row, a matrix of k columns, under all choices. Its constant stands in its last row and
-- last column.
--
--   constant_of k v                the constant of v
--   IsConstantRow k v              the last row of v is 0 but for it, as in each combination of states, or of maps of states
--   column k i c                   the matrix with c at row i of the last column, and 0 elsewhere
--   unknown_rows k assigns c       for each unknown assignment what it adds where c more is chosen: c in the column of its
--                                  position, and the assignments after it
--   images_of k assigns v          what the list makes of v under zeros, and the unknown rows for v's constant
--   AreImages k assigns v images   the images generate the module of what the list makes of v under all choices
--   IsPrepared assigns prepared    nothing is prepared, or the images of the identity are
use Rattle.std.specs.Prelude.{◌≡◌, ℕ, ◌+◌, ◌-◌, ◌*◌, ◌<◌, ◌⊎◌, List, [], ◌∷◌, Contains, replicate, slice_set, if◌then◌else◌, ◌==◌}
use Rattle.row_modules.specs.Modules.{SameModule, AreRows}
use Rattle.map_modules.specs.Matrices.{cell, identity}
use Rattle.affine_prog.specs.declared.Assign.{Assign}
use Rattle.affine_prog.specs.declared.Assign.TheVariants.{Affine, Any}
use Rattle.affine_prog.specs.Assignments.{made, IsMadeOf}

abbrev pub constant_of : ℕ → List ℕ → ℕ
constant_of k v = cell k v 16 (k - 1)

abbrev pub IsConstantRow : ℕ → List ℕ → Type 0
IsConstantRow k v = (j : ℕ) → j < k - 1 → cell k v 16 j ≡ 0

abbrev pub column : ℕ → ℕ → ℕ → List ℕ
column k i c = slice_set (replicate (17 * k) 0) (k * i + (k - 1)) c

abbrev pub unknown_rows : ℕ → List Assign → ℕ → List (List ℕ)
unknown_rows k [] c = []
unknown_rows k (Affine i row ∷ rest) c = unknown_rows k rest c
unknown_rows k (Any i ∷ rest) c = made k rest [] (column k i c) ∷ unknown_rows k rest c

abbrev pub images_of : ℕ → List Assign → List ℕ → List (List ℕ)
images_of k assigns v = made k assigns [] v ∷ (if constant_of k v == 0 then [] else unknown_rows k assigns (constant_of k v))

pub record AreImages (k : ℕ) (assigns : List Assign) (v : List ℕ) (images : List (List ℕ)) : Type 0 where
  pub rows : AreRows (17 * k) (Contains images)
  pub same : SameModule (17 * k) (Contains images) (IsMadeOf k assigns v)

abbrev pub IsPrepared : List Assign → List (List ℕ) → Type 0
IsPrepared assigns prepared = (prepared ≡ []) ⊎ (prepared ≡ images_of 17 assigns (identity 16))

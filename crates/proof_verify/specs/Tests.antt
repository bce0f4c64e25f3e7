-- What is tried of a procedure, of the starts, and of an edge.
--
--   IsSimpleMatrix assigns b             b is the matrix of the assignments under a simple choice
--   AreMatricesBelow assigns n matrices  the matrices are those under the choices with 1 for an unknown below n; the choice with
--                                        a number past the last unknown is that of zeros
--   AreSimpleMatrices assigns matrices   the matrices are those under simple choices
--   OpensInto registers slots basis      each opening under a simple choice is a combination of the basis
--   StartsInto registers basis           each start with a simple choice is a combination of the basis
--   StepsInto assigns rows basis         what the assignments make of each row, under each simple choice, is a combination of the basis
--   CallsInto registers slots before rows callees basis    so is what a call makes of each row and each row of the callee
--   EntersInto before rows states basis  so is what each row, and then the assignments, make of each of the states
use Rattle.std.specs.Prelude.{◌≡◌, ◌↔◌, ℕ, ◌<◌, List, Contains}
use Rattle.word_rows.specs.Rows.{unit}
use Rattle.row_modules.specs.Modules.{IsCombination}
use Rattle.map_modules.specs.Matrices.{product, apply, linear_extension}
use Rattle.affine_prog.specs.declared.Assign.{Assign}
use Rattle.affine_prog.specs.Assignments.{unknown_count, matrix_of}
use Rattle.proof_rules.specs.Simple.{IsSimple, IsSimpleStep, IsSimpleOpening, IsSimpleStart}

abbrev pub IsSimpleMatrix : List Assign → List ℕ → Type 0
IsSimpleMatrix assigns b = (words : List ℕ) × IsSimple (unknown_count assigns) words × (b ≡ matrix_of assigns words)

abbrev pub IsMatrixBelow : List Assign → ℕ → List ℕ → Type 0
IsMatrixBelow assigns n b = (k : ℕ) × (k < n) × (b ≡ matrix_of assigns (unit (unknown_count assigns) k))

abbrev pub AreMatricesBelow : List Assign → ℕ → List (List ℕ) → Type 0
AreMatricesBelow assigns n matrices = (b : List ℕ) → Contains matrices b ↔ IsMatrixBelow assigns n b

abbrev pub AreSimpleMatrices : List Assign → List (List ℕ) → Type 0
AreSimpleMatrices assigns matrices = (b : List ℕ) → Contains matrices b ↔ IsSimpleMatrix assigns b

abbrev pub OpensInto : ℕ → ℕ → List (List ℕ) → Type 0
OpensInto registers slots basis = (m : List ℕ) → IsSimpleOpening registers slots m → IsCombination 289 (Contains basis) m

abbrev pub StartsInto : ℕ → List (List ℕ) → Type 0
StartsInto registers basis = (v : List ℕ) → IsSimpleStart registers v → IsCombination 17 (Contains basis) v

abbrev pub StepsInto : List Assign → List (List ℕ) → List (List ℕ) → Type 0
StepsInto assigns rows basis = (m n : List ℕ) → Contains rows m → IsSimpleStep assigns m n → IsCombination 289 (Contains basis) n

abbrev pub CallsInto : ℕ → ℕ → List Assign → List (List ℕ) → List (List ℕ) → List (List ℕ) → Type 0
CallsInto registers slots before rows callees basis =
    (m n callee : List ℕ) → Contains rows m → IsSimpleStep before m n → Contains callees callee
    → IsCombination 289 (Contains basis) (product (linear_extension registers slots callee) n)

abbrev pub EntersInto : List Assign → List (List ℕ) → List (List ℕ) → List (List ℕ) → Type 0
EntersInto before rows states basis =
    (m n s : List ℕ) → Contains rows m → IsSimpleStep before m n → Contains states s → IsCombination 17 (Contains basis) (apply n s)

-- Lists of assignments, made one after the other, as matrices (transition matrices).
--
--   position_of assign         the position that is assigned
--   unknown_count assigns      how many unknown assignments the list has
--   Choice assigns words       the words are a choice for the list: one for each unknown assignment, in order
--   constant w                 the row whose product with a state is w: w at position 16, else 0
--   assignment i row           the matrix that sets position i to row . state, and keeps all else
--   matrix_of assigns words    the matrix of the list under the choice, the product of its assignments, the first one
--                              rightmost; an unknown assignment sets its position to its chosen word
--   made k assigns words v     what the list makes of v, a matrix of k columns, under the choice: of a state, or of a map
--   IsMadeOf k assigns v w     w is what the list makes of v under some choice
use Rattle.std.specs.Prelude.{ℕ, ◌≡◌, ◌+◌, List, [], ◌∷◌, drop, slice_index, if◌then◌else◌, ◌==◌}
use Rattle.word_rows.specs.Rows.{IsRow}
use Rattle.map_modules.specs.Matrices.{vector, identity, moved, product, after_affine}
use Rattle.affine_prog.specs.declared.Assign.{Assign}
use Rattle.affine_prog.specs.declared.Assign.TheVariants.{Affine, Any}

abbrev pub position_of : Assign → ℕ
position_of (Affine i row) = i
position_of (Any i) = i

abbrev pub unknown_count : List Assign → ℕ
unknown_count [] = 0
unknown_count (Affine i row ∷ rest) = unknown_count rest
unknown_count (Any i ∷ rest) = unknown_count rest + 1

abbrev pub Choice : List Assign → List ℕ → Type 0
Choice assigns words = IsRow (unknown_count assigns) words

abbrev pub constant : ℕ → List ℕ
constant w = vector (λ k. if k == 16 then w else 0)

abbrev pub assignment : ℕ → List ℕ → List ℕ
assignment i row = after_affine (identity 16) i row

abbrev pub matrix_of : List Assign → List ℕ → List ℕ
matrix_of [] words = identity 16
matrix_of (Affine i row ∷ rest) words = product (matrix_of rest words) (assignment i row)
matrix_of (Any i ∷ rest) words = product (matrix_of rest (drop 1 words)) (assignment i (constant (slice_index words 0)))

abbrev pub made : ℕ → List Assign → List ℕ → List ℕ → List ℕ
made k assigns words v = moved k (matrix_of assigns words) v

abbrev pub IsMadeOf : ℕ → List Assign → List ℕ → List ℕ → Type 0
IsMadeOf k assigns v w = (words : List ℕ) × Choice assigns words × (w ≡ made k assigns words v)

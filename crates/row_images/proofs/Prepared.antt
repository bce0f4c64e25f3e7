-- What the images of the identity make of a row are its images.
use Rattle.std.proofs.Common.{◌≡◌, ℕ, ◌*◌, ◌<◌, List, [], ◌∷◌, Bool, true, false, map, take, refl, ap, ap₂, sym, ◌∙◌, arith, ◌==◌, ◌&&◌, if◌then◌else◌}
use Rattle.std.proofs.lemmas.Bool.{ne_eqb}
use Rattle.std.proofs.lemmas.List.Elements.{All-head, All-tail}
use Rattle.word_rows.specs.Words.{word}
use Rattle.word_rows.specs.Rows.{IsRow}
use Rattle.map_modules.specs.Matrices.{cell, entry, sum_below, identity, moved}
use Rattle.map_modules.proofs.Lemmas.{sum_below_same, sum_below_pick, same_table, moved-product, product-identity_second, IsAffine-identity}
use Rattle.affine_prog.specs.declared.Assign.{Assign}
use Rattle.affine_prog.specs.declared.Assign.TheVariants.{Affine, Any}
use Rattle.affine_prog.specs.Assignments.{position_of, matrix_of, made}
use Rattle.affine_prog.proofs.Lemmas.{ArePlaced, spread, matrix_is_row}
use Rattle.row_images.specs.Images.{constant_of, IsConstantRow, column, unknown_rows, images_of}
use Rattle.row_images.proofs.Columns.{cell-column, spread_is_column}

last_of_identity : entry (identity 16) 16 16 ≡ 1
last_of_identity = IsAffine-identity 16 16 (omega arith)

images_of_identity : (assigns : List Assign) → images_of 17 assigns (identity 16) ≡ matrix_of assigns [] ∷ unknown_rows 17 assigns 1
images_of_identity assigns =
    ap (λ (c : ℕ). made 17 assigns [] (identity 16) ∷ (if c == 0 then [] else unknown_rows 17 assigns c)) last_of_identity
    ∙ ap (λ (x : List ℕ). x ∷ unknown_rows 17 assigns 1) (product-identity_second (matrix_of assigns []) (matrix_is_row assigns []))

module _ (k : ℕ) (some : 0 < k) where
  moved_by_column : (i : ℕ) (v : List ℕ) → i < 17 → moved k (column 17 i 1) v ≡ spread k i v
  moved_by_column i v below =
      same_table k (λ r j. sum_below 17 (λ l. entry (column 17 i 1) r l * cell k v l j)) (λ r j. if r == i then cell k v 16 j else 0)
      (λ r j at_row at_column.
      sum_below_same 17 (λ l. entry (column 17 i 1) r l * cell k v l j) (λ l. (if l == 16 then (if r == i then 1 else 0) else 0) * cell k v l j)
      (λ l inside. ap (λ (x : ℕ). word (x * cell k v l j)) (cell-column 17 (omega arith) i 1 r l below at_row inside ∙ swapped (r == i) (l == 16) 1 0))
      ∙ ap word (sum_below_pick 17 16 (if r == i then 1 else 0) (λ l. cell k v l j) (omega arith) ∙ picked (r == i) (cell k v 16 j)))
    where
      swapped : (b d : Bool) (x y : ℕ) → (if b && d then x else y) ≡ (if d then (if b then x else y) else y)
      swapped true true x y = refl
      swapped true false x y = refl
      swapped false true x y = refl
      swapped false false x y = refl

      picked : (b : Bool) (c : ℕ) → (if b then 1 else 0) * c ≡ (if b then c else 0)
      picked true c = omega arith
      picked false c = omega arith

  unknown_moved : (assigns : List Assign) (v : List ℕ) → ArePlaced assigns → IsRow (17 * k) v → IsConstantRow k v → map (λ m. moved k m v) (unknown_rows 17 assigns 1) ≡ unknown_rows k assigns (constant_of k v)
  unknown_moved [] v placed row h = refl
  unknown_moved (Affine i form ∷ rest) v placed row h = unknown_moved rest v (All-tail (λ a. position_of a < 16) (Affine i form) rest placed) row h
  unknown_moved (Any i ∷ rest) v placed row h =
      let below : i < 16 = All-head (λ a. position_of a < 16) (Any i) rest placed in
      ap₂ (λ (x : List ℕ) (xs : List (List ℕ)). x ∷ xs)
      (sym (moved-product k (matrix_of rest []) (column 17 i 1) v) ∙ ap (made k rest []) (moved_by_column i v (omega arith) ∙ spread_is_column k some i v (omega arith) row h))
      (unknown_moved rest v (All-tail (λ a. position_of a < 16) (Any i) rest placed) row h)

  module _ (assigns : List Assign) (prepared : List (List ℕ)) (v : List ℕ) (is : prepared ≡ images_of 17 assigns (identity 16)) where
    both_is : prepared ≡ matrix_of assigns [] ∷ unknown_rows 17 assigns 1
    both_is = is ∙ images_of_identity assigns

    pub prepared_first : constant_of k v ≡ 0 → map (λ m. moved k m v) (take 1 prepared) ≡ images_of k assigns v
    prepared_first none =
        ap (λ (l : List (List ℕ)). map (λ m. moved k m v) (take 1 l)) both_is
        ∙ sym (ap (λ (c : ℕ). made k assigns [] v ∷ (if c == 0 then [] else unknown_rows k assigns c)) none)

    pub prepared_all : ArePlaced assigns → IsRow (17 * k) v → IsConstantRow k v → (constant_of k v ≡ 0 → ⊥) → map (λ m. moved k m v) prepared ≡ images_of k assigns v
    prepared_all placed row h other =
        ap (λ (l : List (List ℕ)). map (λ m. moved k m v) l) both_is
        ∙ ap (λ (l : List (List ℕ)). made k assigns [] v ∷ l) (unknown_moved assigns v placed row h
        ∙ sym (ap (λ b. if b then [] else unknown_rows k assigns (constant_of k v)) (ne_eqb (constant_of k v) 0 other)))

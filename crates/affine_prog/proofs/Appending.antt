-- Lists of assignments, one after the other: their choices, and their matrices.
use Rattle.std.proofs.Common.{◌≡◌, ℕ, ◌+◌, List, [], ◌∷◌, ◌++◌, length, take, drop, ap, ap₂, sym, ◌∙◌, arith}
use Rattle.std.proofs.lemmas.List.{length-append, length-take, length-drop, take-append-drop, map-append, take-map, drop-map}
use Rattle.word_rows.specs.Words.{word}
use Rattle.word_rows.specs.Rows.{IsRow}
use Rattle.map_modules.specs.Matrices.{product}
use Rattle.map_modules.proofs.Lemmas.{IsRow-matrix}
use Rattle.map_modules.proofs.Lemmas.{product-product, product-identity_second}
use Rattle.affine_prog.specs.declared.Assign.{Assign}
use Rattle.affine_prog.specs.declared.Assign.TheVariants.{Affine, Any}
use Rattle.affine_prog.specs.Assignments.{unknown_count, Choice, constant, assignment, matrix_of}

pub unknown_count-append : (xs ys : List Assign) → unknown_count (xs ++ ys) ≡ unknown_count xs + unknown_count ys
unknown_count-append [] ys = omega arith
unknown_count-append (Affine i row ∷ xs) ys = unknown_count-append xs ys
unknown_count-append (Any i ∷ xs) ys = omega (arith, unknown_count-append xs ys)

pub matrix_is_row : (xs : List Assign) (words : List ℕ) → IsRow 289 (matrix_of xs words)
matrix_is_row [] words = IsRow-matrix _
matrix_is_row (Affine i row ∷ xs) words = IsRow-matrix _
matrix_is_row (Any i ∷ xs) words = IsRow-matrix _

-- the matrix of two lists, one after the other
pub matrix_of-append : (xs ys : List Assign) (v w : List ℕ) → length v ≡ unknown_count xs
    → matrix_of (xs ++ ys) (v ++ w) ≡ product (matrix_of ys w) (matrix_of xs v)
matrix_of-append [] ys [] w long = sym (product-identity_second (matrix_of ys w) (matrix_is_row ys w))
matrix_of-append [] ys (x ∷ v) w long = absurd (omega arith)
matrix_of-append (Affine i row ∷ xs) ys v w long =
    ap (λ b. product b (assignment i row)) (matrix_of-append xs ys v w long)
    ∙ sym (product-product (matrix_of ys w) (matrix_of xs v) (assignment i row))
matrix_of-append (Any i ∷ xs) ys [] w long = absurd (omega arith)
matrix_of-append (Any i ∷ xs) ys (x ∷ v) w long =
    ap (λ b. product b (assignment i (constant x))) (matrix_of-append xs ys v w (omega arith))
    ∙ sym (product-product (matrix_of ys w) (matrix_of xs v) (assignment i (constant x)))

-- choices of two lists are a choice of both, and back
pub Choice-append : (xs ys : List Assign) (v w : List ℕ) → Choice xs v → Choice ys w → Choice (xs ++ ys) (v ++ w)
Choice-append xs ys v w a b = record {
  width = length-append v w ∙ ap₂ (λ (m n : ℕ). m + n) a.width b.width ∙ sym (unknown_count-append xs ys);
  words = map-append word v w ∙ ap₂ (λ (s t : List ℕ). s ++ t) a.words b.words;
}

-- a choice of two lists, one after the other, in its two parts
pub record Parts (xs ys : List Assign) (words : List ℕ) : Type 0 where
  pub first : List ℕ
  pub second : List ℕ
  pub first_choice : Choice xs first
  pub second_choice : Choice ys second
  pub both : first ++ second ≡ words

pub Choice-parts : (xs ys : List Assign) (words : List ℕ) → Choice (xs ++ ys) words → Parts xs ys words
Choice-parts xs ys words c =
    let n = unknown_count xs in
    let long : length words ≡ n + unknown_count ys = c.width ∙ unknown_count-append xs ys in
    record {
      first = take n words;
      second = drop n words;
      first_choice = record { width = omega (arith, length-take n words); words = sym (take-map word n words) ∙ ap (take n) c.words };
      second_choice = record { width = omega (arith, length-drop n words); words = sym (drop-map word n words) ∙ ap (drop n) c.words };
      both = take-append-drop n words;
    }

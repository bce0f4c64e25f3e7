-- The matrix of a list depends on the choice in the column of the constant alone.
use Rattle.std.proofs.Common.{◌≡◌, ℕ, ◌*◌, ◌<◌, inl, inr, List, [], ◌∷◌, Bool, true, false, All, drop, slice_index, refl, ap, ap₂, sym, ◌∙◌, arith, ◌==◌, if◌then◌else◌}
use Rattle.std.proofs.lemmas.Bool.{cases_eq, ne_eqb}
use Rattle.std.proofs.lemmas.List.Elements.{All-head, All-tail}
use Rattle.word_rows.specs.Words.{word}
use Rattle.map_modules.specs.Matrices.{entry, sum_below, identity, product, IsAffine}
use Rattle.map_modules.proofs.Lemmas.{sum_below_same, entry-matrix, IsAffine-identity, IsAffine-after_affine}
use Rattle.affine_prog.specs.declared.Assign.{Assign}
use Rattle.affine_prog.specs.declared.Assign.TheVariants.{Affine, Any}
use Rattle.affine_prog.specs.Assignments.{position_of, constant, assignment, matrix_of}
use Rattle.affine_prog.proofs.Steps.{constant_sum}

-- two matrices that are equal but in the column of the constant
abbrev AreSame : List ℕ → List ℕ → Type 0
AreSame m n = (i j : ℕ) → i < 17 → j < 16 → entry m i j ≡ entry n i j

last_zero : (m : List ℕ) → IsAffine m → (j : ℕ) → j < 16 → entry m 16 j ≡ 0
last_zero m a j below = a j (omega arith) ∙ ap (λ b. if b then 1 else 0) (ne_eqb j 16 (λ e. omega arith))

-- products of such ones, where the first maps are affine
products_same : (a a' b b' : List ℕ) → IsAffine b → IsAffine b' → AreSame a a' → AreSame b b' → AreSame (product a b) (product a' b')
products_same a a' b b' first second outer inner i j row column =
    entry-matrix _ i j row (omega arith)
    ∙ sum_below_same 17 (λ k. entry a i k * entry b k j) (λ k. entry a' i k * entry b' k j)
    (λ k inside. elim (cases_eq k 16) [
      | inl e ↦ rw e (ap word (none (entry a i 16) (entry b 16 j) (last_zero b first j column) ∙ sym (none (entry a' i 16) (entry b' 16 j) (last_zero b' second j column))))
      | inr other ↦ ap word (ap₂ (λ (x y : ℕ). x * y) (outer i k row (omega arith)) (inner k j inside column))
    ])
    ∙ sym (entry-matrix _ i j row (omega arith))
  where
    none : (x y : ℕ) → y ≡ 0 → x * y ≡ 0
    none x y e = ap (λ (z : ℕ). x * z) e ∙ (let h : x * 0 ≡ 0 = omega arith in h)

-- an unknown assignment, under two words
unknowns_same : (i v w : ℕ) → AreSame (assignment i (constant v)) (assignment i (constant w))
unknowns_same i v w k j row column =
    entry-matrix _ k j row (omega arith) ∙ either_same (k == i) _ _ _ (nothing v ∙ sym (nothing w)) ∙ sym (entry-matrix _ k j row (omega arith))
  where
    either_same : (b : Bool) (x y z : ℕ) → word x ≡ word y → word (if b then x else z) ≡ word (if b then y else z)
    either_same true x y z e = e
    either_same false x y z e = refl

    nothing : (c : ℕ) → word (sum_below 17 (λ l. slice_index (constant c) l * entry (identity 16) l j)) ≡ word 0
    nothing c =
        constant_sum c (λ l. entry (identity 16) l j) ∙ ap (λ x. word (c * x)) (last_zero (identity 16) (IsAffine-identity 16) j column) ∙ ap word (let e : c * 0 ≡ 0 = omega arith in e)

pub choices_move_constants : (assigns : List Assign) (words others : List ℕ) → All (λ a. position_of a < 16) assigns → (i j : ℕ) → i < 17 → j < 16
    → entry (matrix_of assigns words) i j ≡ entry (matrix_of assigns others) i j
choices_move_constants [] words others placed i j row column = refl
choices_move_constants (Affine at form ∷ rest) words others placed i j row column =
    let a = IsAffine-after_affine (identity 16) form at (All-head (λ a. position_of a < 16) (Affine at form) rest placed) (IsAffine-identity 16) in
    products_same (matrix_of rest words) (matrix_of rest others) (assignment at form) (assignment at form) a a
    (choices_move_constants rest words others (All-tail (λ a. position_of a < 16) (Affine at form) rest placed)) (λ k l below inside. refl) i j row column
choices_move_constants (Any at ∷ rest) words others placed i j row column =
    let below : at < 16 = All-head (λ a. position_of a < 16) (Any at) rest placed in
    let a = λ (w : ℕ). IsAffine-after_affine (identity 16) (constant w) at below (IsAffine-identity 16) in
    products_same (matrix_of rest (drop 1 words)) (matrix_of rest (drop 1 others)) (assignment at (constant (slice_index words 0))) (assignment at (constant (slice_index others 0)))
    (a (slice_index words 0)) (a (slice_index others 0))
    (choices_move_constants rest (drop 1 words) (drop 1 others) (All-tail (λ a. position_of a < 16) (Any at) rest placed))
    (unknowns_same at (slice_index words 0) (slice_index others 0)) i j row column

-- The map of a step: assignments one after the other, linear in the map before, and what an unknown word adds.
use Rattle.std.proofs.Common.{◌≡◌, ℕ, ◌+◌, ◌*◌, ◌<◌, List, slice_index, Bool, true, false, refl, ap, sym, ◌∙◌, arith, if◌then◌else◌, ◌==◌}
use Rattle.std.proofs.lemmas.Bool.{ne_eqb}
use Rattle.word_rows.specs.Words.{word}
use Rattle.word_rows.specs.Rows.{words_of, plus}
use Rattle.map_modules.specs.Matrices.{cell, table, sum_below, moved, product, assigned, after_affine}
use Rattle.row_modules.specs.Maps.{IsLinear}
use Rattle.map_modules.proofs.Sums.{word-add, word-mul, word-word, sum_below_same, sum_below_pick}
use Rattle.map_modules.proofs.Entries.{IsRow-matrix, cell-table, same_table, get_or-vector}
use Rattle.map_modules.proofs.Linear.{table-plus, either_plus, product_second}
use Rattle.map_modules.proofs.Products.{moved-product, assigned-moved}
use Rattle.affine_prog.specs.declared.Assign.{Assign}
use Rattle.affine_prog.specs.Assignments.{constant, assignment, matrix_of}
use Rattle.affine_prog.specs.LevelPaths.{step_map}

pub step_is_linear : (assigns : List Assign) (words : List ℕ) → IsLinear 289 289 (step_map assigns words)
step_is_linear assigns words = record { rows = λ m r. IsRow-matrix _; sum = product_second (matrix_of assigns words) }

-- one assignment, and then the rest
pub made-cons : (k : ℕ) (v form b : List ℕ) (i : ℕ) → moved k (product b (assignment i form)) v ≡ moved k b (assigned k v i form)
made-cons k v form b i = sym (moved-product k b (assignment i form) v) ∙ ap (moved k b) (sym (assigned-moved k v form i))

pub step_map-cons : (m row b : List ℕ) (i : ℕ) → product (product b (assignment i row)) m ≡ product b (after_affine m i row)
step_map-cons = made-cons 17

-- the last row of v in row i, and 0 elsewhere: what one more of an unknown word adds
abbrev pub spread : ℕ → ℕ → List ℕ → List ℕ
spread k i v = table k (λ r j. if r == i then cell k v 16 j else 0)

pub constant_sum : (w : ℕ) (f : ℕ → ℕ) → word (sum_below 17 (λ l. slice_index (constant w) l * f l)) ≡ word (w * f 16)
constant_sum w f =
    sum_below_same 17 (λ l. slice_index (constant w) l * f l) (λ l. (if l == 16 then w else 0) * f l)
    (λ l h. word-mul (slice_index (constant w) l) (if l == 16 then w else 0) (f l) (f l) (ap word (get_or-vector _ l h) ∙ word-word _) refl)
    ∙ ap word (sum_below_pick 17 16 w f (omega arith))

-- where the last row is 0, an unknown word adds nothing
abbrev pub HasNoConstant : ℕ → List ℕ → Type 0
HasNoConstant k n = (j : ℕ) → j < k → cell k n 16 j ≡ 0

module _ (k : ℕ) where
  pub unknown_word : (w i : ℕ) (v : List ℕ) → assigned k v i (constant w) ≡ words_of (plus w (assigned k v i (constant 0)) (spread k i v))
  unknown_word w i v =
      table-plus k w _ _ _ (λ r j row column. either_plus (r == i) w _ _ _ _ _ _ (given j) (ap word (let e : cell k v r j ≡ cell k v r j + w * 0 = omega arith in e)))
    where
      given : (j : ℕ) → word (sum_below 17 (λ l. slice_index (constant w) l * cell k v l j)) ≡ word (sum_below 17 (λ l. slice_index (constant 0) l * cell k v l j) + w * cell k v 16 j)
      given j =
          constant_sum w (λ l. cell k v l j)
          ∙ sym (word-add _ (0 * cell k v 16 j) (w * cell k v 16 j) (w * cell k v 16 j) (constant_sum 0 (λ l. cell k v l j)) refl ∙ ap word (let e : 0 * cell k v 16 j + w * cell k v 16 j ≡ w * cell k v 16 j = omega arith in e))

  pub unknown_of_none : (w i : ℕ) (n : List ℕ) → HasNoConstant k n → assigned k n i (constant w) ≡ assigned k n i (constant 0)
  unknown_of_none w i n none =
      same_table k _ _ (λ r j row column. either_same (r == i) _ _ _ (nothing w j column ∙ sym (nothing 0 j column)))
    where
      either_same : (b : Bool) (x y z : ℕ) → word x ≡ word y → word (if b then x else z) ≡ word (if b then y else z)
      either_same true x y z e = e
      either_same false x y z e = refl

      nothing : (c j : ℕ) → j < k → word (sum_below 17 (λ l. slice_index (constant c) l * cell k n l j)) ≡ word 0
      nothing c j column = constant_sum c (λ l. cell k n l j) ∙ ap (λ x. word (c * x)) (none j column) ∙ ap word (let e : c * 0 ≡ 0 = omega arith in e)

  pub HasNoConstant-assigned : (i : ℕ) (n form : List ℕ) → i < 16 → HasNoConstant k n → HasNoConstant k (assigned k n i form)
  HasNoConstant-assigned i n form below none j column =
      cell-table k _ 16 j (omega arith) column
      ∙ ap (λ b. word (if b then sum_below 17 (λ l. slice_index form l * cell k n l j) else cell k n 16 j)) (ne_eqb 16 i (λ e. omega arith)) ∙ ap word (none j column)

  pub HasNoConstant-spread : (i : ℕ) (v : List ℕ) → i < 16 → HasNoConstant k (spread k i v)
  HasNoConstant-spread i v below j column =
      cell-table k _ 16 j (omega arith) column ∙ ap (λ b. word (if b then cell k v 16 j else 0)) (ne_eqb 16 i (λ e. omega arith))

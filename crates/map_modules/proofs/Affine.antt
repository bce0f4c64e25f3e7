-- Affine maps: their last row is that of the identity, so what is made of them is affine, and they take states to states.
use Rattle.std.proofs.Common.{◌≡◌, ℕ, ◌*◌, ◌<◌, List, slice_index, Bool, true, false, refl, ap, ◌∙◌, arith, if◌then◌else◌, ◌==◌, ◌&&◌, ◌||◌, nat_lt}
use Rattle.std.proofs.lemmas.Bool.{ne_eqb}
use Rattle.word_rows.specs.Words.{word}
use Rattle.word_rows.specs.Rows.{IsState}
use Rattle.row_modules.specs.Positions.{has}
use Rattle.map_modules.specs.Matrices.{entry, matrix, sum_below, identity, product, apply, after_affine, extension, IsAffine}
use Rattle.map_modules.proofs.Sums.{word-mul, sum_below_same, sum_below_pick}
use Rattle.map_modules.proofs.Entries.{entry-matrix, get_or-vector, IsRow-vector}
use Rattle.map_modules.proofs.Conditions.{and_true, or_true, same_tests}

-- 1 at column 16, else 0
abbrev last : ℕ → ℕ
last j = if j == 16 then 1 else 0

pub word_of_bit : (b : Bool) → word (if b then 1 else 0) ≡ (if b then 1 else 0)
word_of_bit true = refl
word_of_bit false = refl

pub affine_from_row : (f : ℕ → ℕ → ℕ) → ((j : ℕ) → j < 17 → word (f 16 j) ≡ word (last j)) → IsAffine (matrix f)
affine_from_row f same j column =
    entry-matrix f 16 j (omega arith) column ∙ same j column ∙ word_of_bit (j == 16)

pub IsAffine-identity : (width : ℕ) → IsAffine (identity width)
IsAffine-identity width =
    affine_from_row _ (λ j column. ap (λ b. word (if b then 1 else 0))
    (and_true (16 == j) (nat_lt 16 width || (16 == 16)) (or_true (nat_lt 16 width) (16 == 16) refl) ∙ same_tests 16 j))

-- a sum along the last row picks the last term
last_sum : (m : List ℕ) (f : ℕ → ℕ) → IsAffine m → word (sum_below 17 (λ k. entry m 16 k * f k)) ≡ word (f 16)
last_sum m f a =
    sum_below_same 17 (λ k. entry m 16 k * f k) (λ k. (if k == 16 then 1 else 0) * f k)
    (λ k h. word-mul (entry m 16 k) (last k) (f k) (f k) (ap word (a k h)) refl)
    ∙ ap word (sum_below_pick 17 16 1 f (omega arith) ∙ (let e : 1 * f 16 ≡ f 16 = omega arith in e))

pub IsAffine-product : (after before : List ℕ) → IsAffine after → IsAffine before → IsAffine (product after before)
IsAffine-product after before a b =
    affine_from_row _ (λ j column. last_sum after (λ k. entry before k j) a ∙ ap word (b j column))

pub IsAffine-after_affine : (m row : List ℕ) (at : ℕ) → at < 16 → IsAffine m → IsAffine (after_affine m at row)
IsAffine-after_affine m row at below a =
    affine_from_row _ (λ j column. ap (λ b. word (if b then sum_below 17 (λ l. slice_index row l * entry m l j) else entry m 16 j)) (ne_eqb 16 at (λ e. omega arith))
    ∙ ap word (a j column))

pub IsAffine-extension : (registers slots : ℕ) (m : List ℕ) → IsAffine m → IsAffine (extension registers slots m)
IsAffine-extension registers slots m a =
    affine_from_row _ (λ j column. ap (λ b. word (if b then entry m 16 j else if has slots 16 && (16 == j) then 1 else 0)) (or_true (has registers 16) (16 == 16) refl)
    ∙ ap word (a j column))

pub IsState-apply : (m v : List ℕ) → IsAffine m → IsState v → IsState (apply m v)
IsState-apply m v a s = record {
  row = IsRow-vector _;
  constant = get_or-vector _ 16 (omega arith) ∙ last_sum m (λ k. slice_index v k) a ∙ ap word s.constant;
}

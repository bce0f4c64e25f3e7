-- Matrices that are 0 outside some rows and columns: a module, kept by products and affine assignments, and the positions that
-- they use.
use Rattle.std.proofs.Common.{◌≡◌, ℕ, ◌+◌, ◌*◌, ◌<◌, inl, inr, Bool, true, false, List, slice_index, IsTrue, ap, sym, ◌∙◌, arith, ◌==◌, ◌&&◌, ◌||◌, if◌then◌else◌}
use Rattle.std.proofs.lemmas.Bool.{cases_lt, and_left, or_from, ne_eqb}
use Rattle.std.proofs.lemmas.List.{get_or_past}
use Rattle.word_rows.specs.Words.{word}
use Rattle.word_rows.proofs.Laws.{get_or-zeros, sum_zeros, get_or-wrapped_plus, IsRow-zeros, IsRow-plus}
use Rattle.row_modules.specs.Modules.{IsModule}
use Rattle.row_modules.specs.Positions.{has, IsZeroOutside}
use Rattle.row_modules.proofs.Laws.{in_not_out}
use Rattle.map_modules.specs.Matrices.{entry, sum_below, product, apply, after_affine, with_slots, IsMatrixOn}
use Rattle.map_modules.proofs.Sums.{sum_below_same, sum_below-times}
use Rattle.map_modules.proofs.Entries.{entry-matrix, IsRow-matrix, get_or-vector, IsRow-vector}

pub if_false : (b : Bool) (x y : ℕ) → b ≡ false → (if b then x else y) ≡ y
if_false b x y e = ap (λ c. if c then x else y) e

if_zero : (b : Bool) (x y : ℕ) → word x ≡ 0 → word y ≡ 0 → word (if b then x else y) ≡ 0
if_zero true x y e f = e
if_zero false x y e f = f

pub zero_sum : (f : ℕ → ℕ) → ((l : ℕ) → l < 17 → f l ≡ 0) → word (sum_below 17 f) ≡ 0
zero_sum f h =
    sum_below_same 17 f (λ k. 0 * f k) (λ l below. ap word (h l below ∙ (let e : 0 ≡ 0 * f l = omega arith in e)))
    ∙ ap word (sum_below-times 17 0 f ∙ (let e : 0 * sum_below 17 f ≡ 0 = omega arith in e))

times_zero : (x y : ℕ) → y ≡ 0 → x * y ≡ 0
times_zero x y e = ap (λ (z : ℕ). x * z) e ∙ (let h : x * 0 ≡ 0 = omega arith in h)

zero_times : (x y : ℕ) → x ≡ 0 → x * y ≡ 0
zero_times x y e = ap (λ (z : ℕ). z * y) e ∙ (let h : 0 * y ≡ 0 = omega arith in h)

module _ (rows columns : ℕ) where
  pub matrices_on_are_module : IsModule 289 (IsMatrixOn rows columns)
  matrices_on_are_module = record {
    rows = λ m p. p.row;
    zero_row = record { row = IsRow-zeros 289; in_rows = λ i j r c out. get_or-zeros 289 (17 * i + j); in_columns = λ i j r c out. get_or-zeros 289 (17 * i + j) };
    sum = λ c v w p q. record {
      row = IsRow-plus 289 c v w p.row q.row;
      in_rows = λ i j below column out. get_or-wrapped_plus c v w (17 * i + j) (p.row.width ∙ sym q.row.width) ∙ sum_zeros (entry v i j) c (entry w i j) (p.in_rows i j below column out) (q.in_rows i j below column out);
      in_columns = λ i j below column out. get_or-wrapped_plus c v w (17 * i + j) (p.row.width ∙ sym q.row.width) ∙ sum_zeros (entry v i j) c (entry w i j) (p.in_columns i j below column out) (q.in_columns i j below column out);
    };
  }

  -- a product has the rows of its first factor, and the columns of its second
  pub product_on : (after before : List ℕ) → ((i j : ℕ) → i < 17 → j < 17 → has rows i ≡ false → entry after i j ≡ 0) → ((i j : ℕ) → i < 17 → j < 17 → has columns j ≡ false → entry before i j ≡ 0)
      → IsMatrixOn rows columns (product after before)
  product_on after before first second = record {
    row = IsRow-matrix _;
    in_rows = λ i j below column out. entry-matrix _ i j below column ∙ zero_sum _ (λ l inside. zero_times (entry after i l) (entry before l j) (first i l below inside out));
    in_columns = λ i j below column out. entry-matrix _ i j below column ∙ zero_sum _ (λ l inside. times_zero (entry after i l) (entry before l j) (second l j inside column out));
  }

  -- an assignment to a position of the rows
  pub after_affine_on : (m row : List ℕ) (at : ℕ) → IsTrue (has rows at) → IsMatrixOn rows columns m → IsMatrixOn rows columns (after_affine m at row)
  after_affine_on m row at there p = record {
    row = IsRow-matrix _;
    in_rows = λ i j below column out. entry-matrix _ i j below column
        ∙ ap word (if_false (i == at) _ _ (ne_eqb i at (λ e. in_not_out rows at there (rw e at out))) ∙ p.in_rows i j below column out);
    in_columns = λ i j below column out. entry-matrix _ i j below column
        ∙ if_zero (i == at) _ _ (zero_sum _ (λ l inside. times_zero (slice_index row l) (entry m l j) (p.in_columns l j inside column out))) (ap word (p.in_columns i j below column out));
  }

  -- what it makes of a row
  pub apply_on : (m v : List ℕ) → IsMatrixOn rows columns m → IsZeroOutside rows (apply m v)
  apply_on m v p k out = elim (cases_lt k 17) [
    | inl below ↦ get_or-vector _ k below ∙ zero_sum _ (λ l inside. zero_times (entry m k l) (slice_index v l) (p.in_rows k l below inside out))
    | inr past ↦ let w = (IsRow-vector (λ i. sum_below 17 (λ l. entry m i l * slice_index v l))).width in get_or_past (apply m v) k 0 (omega arith)
  ]

-- the rows of an extension
pub extension_rows : (one registers slots : ℕ) (m : List ℕ) (i j : ℕ) → i < 17 → j < 17 → has registers i ≡ false → (i ≡ 16 → ⊥) → has slots i ≡ false → entry (with_slots one registers slots m) i j ≡ 0
extension_rows one registers slots m i j below column r c s =
    entry-matrix _ i j below column
    ∙ ap word (if_false (has registers i || (i == 16)) _ _ (or_from _ _ r (ne_eqb i 16 c)) ∙ if_false (has slots i && (i == j)) one 0 (and_left _ _ s))

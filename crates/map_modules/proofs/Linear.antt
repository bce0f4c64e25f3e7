-- Matrix calls commute with adding a multiple of a matrix or of a row.
use Rattle.std.proofs.Common.{◌≡◌, ℕ, ◌+◌, ◌*◌, ◌<◌, List, length, slice_index, get_or, Bool, true, false, refl, ap, sym, ◌∙◌, arith, if◌then◌else◌, ◌==◌, ◌&&◌, ◌||◌}
use Rattle.word_rows.specs.Words.{word}
use Rattle.word_rows.specs.Rows.{words_of, plus, IsRow}
use Rattle.word_rows.proofs.Laws.{word-plus_first, word-plus_second, get_or-wrapped_plus, length-wrapped_plus}
use Rattle.row_modules.specs.Positions.{has}
use Rattle.map_modules.specs.Matrices.{cell, table, entry, matrix, vector, sum_below, moved, product, apply, after_affine, linear_extension}
use Rattle.map_modules.proofs.Sums.{word-word, word-mul, sum_below_same, sum_below-plus}
use Rattle.map_modules.proofs.Entries.{cell-table, table_from_cells, IsRow-table}

-- under one wrap, a sum whose parts are wrapped before
wrapped_plus : (a c b : ℕ) → word (word a + c * word b) ≡ word (a + c * b)
wrapped_plus a c b = word-plus_first a c (word b) ∙ word-plus_second a c b

-- a matrix, or a row, whose numbers are the sums of two others'
pub table-plus : (k c : ℕ) (h f g : ℕ → ℕ → ℕ) → ((i j : ℕ) → i < 17 → j < k → word (h i j) ≡ word (f i j + c * g i j))
    → table k h ≡ words_of (plus c (table k f) (table k g))
table-plus k c h f g same =
    let a = IsRow-table k f in let b = IsRow-table k g in let e : length (table k f) ≡ length (table k g) = a.width ∙ sym b.width in
    sym (table_from_cells k (words_of (plus c (table k f) (table k g))) h (length-wrapped_plus c (table k f) (table k g) e ∙ a.width)
    (λ i j row column. get_or-wrapped_plus c (table k f) (table k g) (k * i + j) e
    ∙ (let p = cell-table k f i j row column in let q = cell-table k g i j row column in let s : word (cell k (table k f) i j + c * cell k (table k g) i j) ≡ word (word (f i j) + c * word (g i j)) = cc in s)
    ∙ wrapped_plus (f i j) c (g i j) ∙ sym (same i j row column)))

pub matrix-plus : (c : ℕ) (h f g : ℕ → ℕ → ℕ) → ((i j : ℕ) → i < 17 → j < 17 → word (h i j) ≡ word (f i j + c * g i j))
    → matrix h ≡ words_of (plus c (matrix f) (matrix g))
matrix-plus = table-plus 17

pub vector-plus : (c : ℕ) (h f g : ℕ → ℕ) → ((i : ℕ) → i < 17 → word (h i) ≡ word (f i + c * g i))
    → vector h ≡ words_of (plus c (vector f) (vector g))
vector-plus c h f g same = table-plus 1 c (λ i j. h i) (λ i j. f i) (λ i j. g i) (λ i j row column. same i row)

-- sums of products, in their left and right factors
left_sum : (n c : ℕ) (s a b x : ℕ → ℕ) → ((k : ℕ) → k < n → word (s k) ≡ word (a k + c * b k))
    → word (sum_below n (λ k. s k * x k)) ≡ word (sum_below n (λ k. a k * x k) + c * sum_below n (λ k. b k * x k))
left_sum n c s a b x same =
    sum_below_same n (λ k. s k * x k) (λ k. a k * x k + c * (b k * x k))
    (λ k h. word-mul (s k) (a k + c * b k) (x k) (x k) (same k h) refl ∙ ap word (let e : (a k + c * b k) * x k ≡ a k * x k + c * (b k * x k) = omega arith in e))
    ∙ ap word (sum_below-plus n c (λ k. a k * x k) (λ k. b k * x k))

right_sum : (n c : ℕ) (s a b x : ℕ → ℕ) → ((k : ℕ) → k < n → word (s k) ≡ word (a k + c * b k))
    → word (sum_below n (λ k. x k * s k)) ≡ word (sum_below n (λ k. x k * a k) + c * sum_below n (λ k. x k * b k))
right_sum n c s a b x same =
    sum_below_same n (λ k. x k * s k) (λ k. x k * a k + c * (x k * b k))
    (λ k h. word-mul (x k) (x k) (s k) (a k + c * b k) refl (same k h) ∙ ap word (let e : x k * (a k + c * b k) ≡ x k * a k + c * (x k * b k) = omega arith in e))
    ∙ ap word (sum_below-plus n c (λ k. x k * a k) (λ k. x k * b k))

-- f commutes with adding a multiple, at rows of n words
abbrev pub IsAdditive : ℕ → (List ℕ → List ℕ) → Type 0
IsAdditive n f = (c : ℕ) (v w : List ℕ) → IsRow n v → IsRow n w → f (words_of (plus c v w)) ≡ words_of (plus c (f v) (f w))

-- the words of a sum of two rows
module _ (n c : ℕ) (v w : List ℕ) (left : IsRow n v) (right : IsRow n w) where
  pub plus_at : (p : ℕ) → word (get_or (words_of (plus c v w)) p 0) ≡ word (get_or v p 0 + c * get_or w p 0)
  plus_at p = ap word (get_or-wrapped_plus c v w p (left.width ∙ sym right.width)) ∙ word-word (get_or v p 0 + c * get_or w p 0)

pub product_first : (m : List ℕ) → IsAdditive 289 (λ a. product a m)
product_first m c v w left right =
    matrix-plus c _ _ _ (λ i j row column. left_sum 17 c (λ k. entry (words_of (plus c v w)) i k) (λ k. entry v i k) (λ k. entry w i k) (λ k. entry m k j)
    (λ k h. plus_at 289 c v w left right (17 * i + k)))

pub moved_second : (k : ℕ) (m : List ℕ) → IsAdditive (17 * k) (moved k m)
moved_second k m c v w left right =
    table-plus k c _ _ _ (λ i j row column. right_sum 17 c (λ l. cell k (words_of (plus c v w)) l j) (λ l. cell k v l j) (λ l. cell k w l j) (λ l. entry m i l)
    (λ l h. plus_at (17 * k) c v w left right (k * l + j)))

pub product_second : (m : List ℕ) → IsAdditive 289 (product m)
product_second = moved_second 17

pub apply_first : (x : List ℕ) → IsAdditive 289 (λ a. apply a x)
apply_first x c v w left right =
    vector-plus c _ _ _ (λ i row. left_sum 17 c (λ k. entry (words_of (plus c v w)) i k) (λ k. entry v i k) (λ k. entry w i k) (λ k. slice_index x k)
    (λ k h. plus_at 289 c v w left right (17 * i + k)))

pub apply_second : (m : List ℕ) → IsAdditive 17 (apply m)
apply_second m c v w left right =
    vector-plus c _ _ _ (λ i row. right_sum 17 c (λ k. slice_index (words_of (plus c v w)) k) (λ k. slice_index v k) (λ k. slice_index w k) (λ k. entry m i k)
    (λ k h. plus_at 17 c v w left right k))

-- a choice between numbers that are sums
pub either_plus : (b : Bool) (c s t a a' d d' : ℕ) → word s ≡ word (a + c * d) → word t ≡ word (a' + c * d')
    → word (if b then s else t) ≡ word ((if b then a else a') + c * (if b then d else d'))
either_plus true c s t a a' d d' first second = first
either_plus false c s t a a' d d' first second = second

pub after_affine_sum : (at : ℕ) (row : List ℕ) → IsAdditive 289 (λ m. after_affine m at row)
after_affine_sum at row c v w left right =
    matrix-plus c _ _ _ (λ i j within column. either_plus (i == at) c _ _ _ _ _ _
    (right_sum 17 c (λ k. entry (words_of (plus c v w)) k j) (λ k. entry v k j) (λ k. entry w k j) (λ k. slice_index row k) (λ k h. plus_at 289 c v w left right (17 * k + j)))
    (plus_at 289 c v w left right (17 * i + j)))

pub extension_sum : (registers slots : ℕ) → IsAdditive 289 (linear_extension registers slots)
extension_sum registers slots c v w left right =
    matrix-plus c _ _ _ (λ i j within column. either_plus (has registers i || (i == 16)) c _ _ _ _ _ _
    (plus_at 289 c v w left right (17 * i + j))
    (either_plus (has slots i && (i == j)) c _ _ _ _ _ _ (plus_at 289 c v w left right (17 * 16 + 16)) (ap word (let e : 0 ≡ 0 + c * 0 = omega arith in e))))

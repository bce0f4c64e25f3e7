-- Matrices of 17 rows over words: a row of 17 * k words is one of k columns, with the word at row i and column j at position
-- k * i + j. A state has one column. A map of states has 17, and acts on each from the left. Sums and products are whole
-- numbers, and a matrix wraps each once.
--
--   cell k v i j                          the word of v, of k columns, at row i and column j
--   table k f                             the matrix of k columns with f i j, wrapped, at row i and column j
--   moved k m v                           m times v, of k columns: what the map m makes of v
--   assigned k v i form                   v with form times v as its row i: position i becomes form . state
--   entry m i j                           the word of a map m at row i and column j
--   sum_below n f                         f 0 + f 1 + .. + f (n - 1)
--   matrix f                              the map with f i j, wrapped, at row i and column j
--   vector f                              the row of 17 words with f i, wrapped, at position i
--   identity width                        1 at (i, i) for i below width and at (16, 16), else 0
--   product after before                  the map before, and then the map after: rows of after times columns of before
--   apply m v                             what m makes of the row v
--   after_affine m i row                  m with row times m as its row i: the map m, and then position i becomes row . state
--   IsAffine m                            the last row of m is 0 but for 1 at column 16
--   IsMatrixOn rows columns m             m is a matrix that is 0 outside these sets of rows and of columns
--   Keeps m r                             row r of m is m's word at (16, 16) at column r, and 0 elsewhere
--
-- This project's own: the map of a callee as its caller sees it. The caller's slots are memory of the caller's activation,
-- which the callee can't name, so they stay; every other position that isn't a register names nothing, and is 0.
--
--   extension registers slots m           the rows of m at the registers and at 16; the slots stay; else 0
--   linear_extension registers slots m    the same, but the slots stay times m's word at (16, 16), so that it is linear in m
--   with_slots one registers slots m      both of them: the slots stay times one
use Rattle.std.specs.Prelude.{◌≡◌, ℕ, zero, suc, ◌+◌, ◌*◌, ◌/◌, ◌%◌, ◌<◌, List, map, slice_index, false, if◌then◌else◌, ◌==◌, ◌&&◌, ◌||◌, nat_lt}
use Rattle.std.specs.List.{range_with_len}
use Rattle.word_rows.specs.Words.{word}
use Rattle.word_rows.specs.Rows.{IsRow}
use Rattle.row_modules.specs.Positions.{has}

abbrev pub cell : ℕ → List ℕ → ℕ → ℕ → ℕ
cell k v i j = slice_index v (k * i + j)

abbrev pub entry : List ℕ → ℕ → ℕ → ℕ
entry m i j = cell 17 m i j

unfoldable pub sum_below : ℕ → (ℕ → ℕ) → ℕ
sum_below zero f = 0
sum_below (suc n) f = sum_below n f + f n

unfoldable pub table : ℕ → (ℕ → ℕ → ℕ) → List ℕ
table k f = map (λ p. word (f (p / k) (p % k))) (range_with_len 0 (17 * k))

abbrev pub matrix : (ℕ → ℕ → ℕ) → List ℕ
matrix f = table 17 f

abbrev pub vector : (ℕ → ℕ) → List ℕ
vector f = table 1 (λ i j. f i)

abbrev pub moved : ℕ → List ℕ → List ℕ → List ℕ
moved k m v = table k (λ i j. sum_below 17 (λ l. entry m i l * cell k v l j))

abbrev pub assigned : ℕ → List ℕ → ℕ → List ℕ → List ℕ
assigned k v i form = table k (λ r j. if r == i then sum_below 17 (λ l. slice_index form l * cell k v l j) else cell k v r j)

abbrev pub identity : ℕ → List ℕ
identity width = matrix (λ i j. if (i == j) && (nat_lt i width || (i == 16)) then 1 else 0)

abbrev pub product : List ℕ → List ℕ → List ℕ
product after before = moved 17 after before

abbrev pub apply : List ℕ → List ℕ → List ℕ
apply m v = vector (λ i. sum_below 17 (λ k. entry m i k * slice_index v k))

abbrev pub after_affine : List ℕ → ℕ → List ℕ → List ℕ
after_affine m i row = assigned 17 m i row

abbrev pub IsAffine : List ℕ → Type 0
IsAffine m = (j : ℕ) → j < 17 → entry m 16 j ≡ (if j == 16 then 1 else 0)

pub record IsMatrixOn (rows columns : ℕ) (m : List ℕ) : Type 0 where
  pub row : IsRow 289 m
  pub in_rows : (i j : ℕ) → i < 17 → j < 17 → has rows i ≡ false → entry m i j ≡ 0
  pub in_columns : (i j : ℕ) → i < 17 → j < 17 → has columns j ≡ false → entry m i j ≡ 0

abbrev pub Keeps : List ℕ → ℕ → Type 0
Keeps m r = (j : ℕ) → j < 17 → entry m r j ≡ (if j == r then entry m 16 16 else 0)

abbrev pub with_slots : ℕ → ℕ → ℕ → List ℕ → List ℕ
with_slots one registers slots m =
    matrix (λ i j. if has registers i || (i == 16) then entry m i j else if has slots i && (i == j) then one else 0)

abbrev pub extension : ℕ → ℕ → List ℕ → List ℕ
extension registers slots m = with_slots 1 registers slots m

abbrev pub linear_extension : ℕ → ℕ → List ℕ → List ℕ
linear_extension registers slots m = with_slots (entry m 16 16) registers slots m

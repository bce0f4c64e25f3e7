-- Products associate, the identity is neutral, and to apply a product is to apply twice.
use Rattle.std.proofs.Common.{◌≡◌, ℕ, ◌+◌, ◌*◌, ◌<◌, List, slice_index, get_or, Bool, true, false, refl, ap, sym, ◌∙◌, arith, if◌then◌else◌, ◌==◌, ◌||◌, nat_lt, inl, inr}
use Rattle.std.proofs.lemmas.Bool.{eq-eqb, cases_lt, lt-ltb}
use Rattle.word_rows.specs.Words.{word}
use Rattle.word_rows.specs.Rows.{IsRow}
use Rattle.word_rows.proofs.Laws.{get_or-words_of}
use Rattle.map_modules.specs.Matrices.{cell, table, entry, sum_below, identity, moved, product, apply, assigned, after_affine}
use Rattle.map_modules.proofs.Sums.{word-word, word-mul, sum_below_same, sum_below-times, sum_below-sum_below, sum_below_pick}
use Rattle.map_modules.proofs.Conditions.{and_true, or_true, same_tests}
use Rattle.map_modules.proofs.Entries.{cell-table, table_from_cells, matrix_from_entries, same_table, one_column}

-- both ways to sum x k * (y k l * z l)
both_ways : (n : ℕ) (x : ℕ → ℕ) (y : ℕ → ℕ → ℕ) (z : ℕ → ℕ) (inner outer : ℕ → ℕ)
    → ((k : ℕ) → k < n → word (inner k) ≡ word (sum_below n (λ l. y k l * z l)))
    → ((l : ℕ) → l < n → word (outer l) ≡ word (sum_below n (λ k. x k * y k l)))
    → word (sum_below n (λ k. x k * inner k)) ≡ word (sum_below n (λ l. outer l * z l))
both_ways n x y z inner outer inside outside =
    sum_below_same n (λ k. x k * inner k) (λ k. sum_below n (λ l. x k * (y k l * z l)))
    (λ k h. word-mul (x k) (x k) (inner k) (sum_below n (λ l. y k l * z l)) refl (inside k h) ∙ ap word (sym (sum_below-times n (x k) (λ l. y k l * z l))))
    ∙ ap word (sum_below-sum_below n n (λ k l. x k * (y k l * z l)))
    ∙ sym (sum_below_same n (λ l. outer l * z l) (λ l. sum_below n (λ k. x k * (y k l * z l)))
    (λ l h. word-mul (outer l) (sum_below n (λ k. x k * y k l)) (z l) (z l) (outside l h) refl
    ∙ ap word ((let e : sum_below n (λ k. x k * y k l) * z l ≡ z l * sum_below n (λ k. x k * y k l) = omega arith in e) ∙ sym (sum_below-times n (z l) (λ k. x k * y k l)))
    ∙ sum_below_same n (λ k. z l * (x k * y k l)) (λ k. x k * (y k l * z l)) (λ k h. ap word (let e : z l * (x k * y k l) ≡ x k * (y k l * z l) = omega arith in e))))

-- a word of a matrix of numbers, wrapped once more
cell_word : (k : ℕ) (f : ℕ → ℕ → ℕ) (i j : ℕ) → i < 17 → j < k → word (cell k (table k f) i j) ≡ word (f i j)
cell_word k f i j row column = ap word (cell-table k f i j row column) ∙ word-word (f i j)

-- a map moves a state as a matrix of one column
pub moved-apply : (m v : List ℕ) → moved 1 m v ≡ apply m v
moved-apply m v =
    same_table 1 _ _ (λ i j row column.
    sum_below_same 17 (λ l. entry m i l * cell 1 v l j) (λ l. entry m i l * slice_index v l)
    (λ l h. ap (λ (p : ℕ). word (entry m i l * slice_index v p)) (one_column l j column)))

pub moved-product : (k : ℕ) (a b v : List ℕ) → moved k a (moved k b v) ≡ moved k (product a b) v
moved-product k a b v =
    same_table k _ _ (λ i j row column. both_ways 17 (λ l. entry a i l) (entry b) (λ l. cell k v l j) (λ l. cell k (moved k b v) l j) (λ l. entry (product a b) i l)
    (λ l h. cell_word k _ l j h column) (λ l h. cell_word 17 _ i l row h))

pub product-product : (a b c : List ℕ) → product a (product b c) ≡ product (product a b) c
product-product = moved-product 17

pub apply-product : (after before v : List ℕ) → apply (product after before) v ≡ apply after (apply before v)
apply-product after before v =
    sym (moved-apply (product after before) v) ∙ sym (moved-product 1 after before v) ∙ ap (moved 1 after) (moved-apply before v) ∙ moved-apply after (apply before v)

-- the words of the identity
kept : (i : ℕ) → i < 17 → (nat_lt i 16 || (i == 16)) ≡ true
kept i row = elim (cases_lt i 16) [
  | inl h ↦ ap (λ b. b || (i == 16)) (lt-ltb i 16 h)
  | inr h ↦ or_true (nat_lt i 16) (i == 16) (eq-eqb i 16 (omega arith))
]

entry-identity : (i j : ℕ) → i < 17 → j < 17 → word (entry (identity 16) i j) ≡ word (if j == i then 1 else 0)
entry-identity i j row column =
    cell_word 17 _ i j row column
    ∙ ap (λ b. word (if b then 1 else 0)) (and_true (i == j) (nat_lt i 16 || (i == 16)) (kept i row) ∙ same_tests i j)

-- a sum along a row, or along a column, of the identity
row_sum : (i : ℕ) (f : ℕ → ℕ) → i < 17 → word (sum_below 17 (λ k. entry (identity 16) i k * f k)) ≡ word (f i)
row_sum i f row =
    sum_below_same 17 (λ k. entry (identity 16) i k * f k) (λ k. (if k == i then 1 else 0) * f k)
    (λ k h. word-mul (entry (identity 16) i k) (if k == i then 1 else 0) (f k) (f k) (entry-identity i k row h) refl)
    ∙ ap word (sum_below_pick 17 i 1 f row ∙ (let e : 1 * f i ≡ f i = omega arith in e))

column_sum : (j : ℕ) (f : ℕ → ℕ) → j < 17 → word (sum_below 17 (λ k. f k * entry (identity 16) k j)) ≡ word (f j)
column_sum j f column =
    sum_below_same 17 (λ k. f k * entry (identity 16) k j) (λ k. (if k == j then 1 else 0) * f k)
    (λ k h. word-mul (f k) (f k) (entry (identity 16) k j) (if k == j then 1 else 0) refl
    (entry-identity k j h column ∙ ap (λ b. word (if b then 1 else 0)) (same_tests j k))
    ∙ ap word (let e : f k * (if k == j then 1 else 0) ≡ (if k == j then 1 else 0) * f k = omega arith in e))
    ∙ ap word (sum_below_pick 17 j 1 f column ∙ (let e : 1 * f j ≡ f j = omega arith in e))

pub row_word : (n : ℕ) (m : List ℕ) → IsRow n m → (p : ℕ) → word (get_or m p 0) ≡ get_or m p 0
row_word n m row p = sym (get_or-words_of m p) ∙ ap (λ xs. get_or xs p 0) row.words

pub moved-identity : (k : ℕ) (v : List ℕ) → IsRow (17 * k) v → moved k (identity 16) v ≡ v
moved-identity k v row =
    sym (table_from_cells k v _ row.width (λ i j within column. sym (row_sum i (λ l. cell k v l j) within ∙ row_word (17 * k) v row (k * i + j))))

pub product-identity_first : (m : List ℕ) → IsRow 289 m → product (identity 16) m ≡ m
product-identity_first = moved-identity 17

pub product-identity_second : (m : List ℕ) → IsRow 289 m → product m (identity 16) ≡ m
product-identity_second m row =
    sym (matrix_from_entries m _ row.width (λ i j within column. sym (column_sum j (λ k. entry m i k) column ∙ row_word 289 m row (17 * i + j))))

pub apply-identity : (v : List ℕ) → IsRow 17 v → apply (identity 16) v ≡ v
apply-identity v row = sym (moved-apply (identity 16) v) ∙ moved-identity 1 v row

-- an affine assignment is a product from the left
affine_word : (b : Bool) (i : ℕ) (form : List ℕ) (f : ℕ → ℕ) → i < 17
    → word (sum_below 17 (λ l. (if b then slice_index form l else entry (identity 16) i l) * f l))
    ≡ word (if b then sum_below 17 (λ l. slice_index form l * f l) else f i)
affine_word true i form f within = refl
affine_word false i form f within = row_sum i f within

affine_entry : (b : Bool) (i k : ℕ) (row : List ℕ) → k < 17
    → word (if b then sum_below 17 (λ l. slice_index row l * entry (identity 16) l k) else entry (identity 16) i k)
    ≡ word (if b then slice_index row k else entry (identity 16) i k)
affine_entry true i k row column = column_sum k (λ l. slice_index row l) column
affine_entry false i k row column = refl

pub assigned-moved : (k : ℕ) (v form : List ℕ) (at : ℕ) → assigned k v at form ≡ moved k (after_affine (identity 16) at form) v
assigned-moved k v form at =
    sym (same_table k _ _ (λ i j within column.
    sum_below_same 17 (λ l. entry (after_affine (identity 16) at form) i l * cell k v l j) (λ l. (if i == at then slice_index form l else entry (identity 16) i l) * cell k v l j)
    (λ l h. word-mul (entry (after_affine (identity 16) at form) i l) (if i == at then slice_index form l else entry (identity 16) i l) (cell k v l j) (cell k v l j)
    (cell_word 17 _ i l within h ∙ affine_entry (i == at) i l form h) refl)
    ∙ affine_word (i == at) i form (λ l. cell k v l j) within))

pub after_affine-product : (m row : List ℕ) (at : ℕ) → after_affine m at row ≡ product (after_affine (identity 16) at row) m
after_affine-product = assigned-moved 17

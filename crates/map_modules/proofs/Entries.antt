-- The words of a matrix that is given by a function of row and column, and matrices that are given word by word.
use Rattle.std.proofs.Common.{◌≡◌, ℕ, ◌+◌, ◌*◌, ◌/◌, ◌%◌, ◌<◌, ◌≤◌, inl, inr, List, length, replicate, get_or, set, ap, sym, ◌∙◌, arith}
use Rattle.std.proofs.lemmas.Bool.{cases_eq}
use Rattle.std.proofs.lemmas.List.{length-replicate, length-set, get_or-set_same, get_or-set_other}
use Rattle.std.proofs.Math.Nat.{div-add-mod}
use Rattle.std.proofs.lemmas.Nat.{mul-add-lt, div-mul-add, mod-mul-add, div_below, mod_below}
use Rattle.std.proofs.lemmas.List.FromFn.{length-map-range_with_len, get_or-map-range_with_len}
use Rattle.std.proofs.lemmas.Grind.{same_number_lists}
use Rattle.word_rows.specs.Words.{word}
use Rattle.word_rows.specs.Rows.{IsRow}
use Rattle.word_rows.proofs.Laws.{get_or-words_of, length-words_of}
use Rattle.map_modules.specs.Matrices.{cell, table, entry, matrix, vector}
use Rattle.map_modules.proofs.Sums.{word-word}

-- words of one wrap are their own wraps
words_from_index : (n : ℕ) (xs : List ℕ) → length xs ≡ n → ((k : ℕ) → k < n → word (get_or xs k 0) ≡ get_or xs k 0) → IsRow n xs
words_from_index n xs wide words = record {
  width = wide;
  words = same_number_lists _ _ (length-words_of xs) (λ k h. get_or-words_of xs k ∙ words k (omega (arith, length-words_of xs)));
}

-- matrices of k columns
module _ (k : ℕ) where
  pub cell_within : (i j : ℕ) → i < 17 → j < k → k * i + j < 17 * k
  cell_within i j row column = let h = mul-add-lt i k j 17 row column in omega arith

  pub position : (i j : ℕ) → j < k → ((k * i + j) / k ≡ i) × ((k * i + j) % k ≡ j)
  position i j column =
      let e : k * i + j ≡ i * k + j = omega arith in
      (ap (λ (n : ℕ). n / k) e ∙ div-mul-add i k j column, ap (λ (n : ℕ). n % k) e ∙ mod-mul-add i k j column)

  length-table : (f : ℕ → ℕ → ℕ) → length (table k f) ≡ 17 * k
  unfolding table
  length-table f = length-map-range_with_len (λ p. word (f (p / k) (p % k))) 0 (17 * k)

  get_or-table : (f : ℕ → ℕ → ℕ) (p : ℕ) → p < 17 * k → get_or (table k f) p 0 ≡ word (f (p / k) (p % k))
  unfolding table
  get_or-table f p h = get_or-map-range_with_len (λ p. word (f (p / k) (p % k))) 0 (17 * k) p p 0 h (omega arith)

  pub cell-table : (f : ℕ → ℕ → ℕ) (i j : ℕ) → i < 17 → j < k → cell k (table k f) i j ≡ word (f i j)
  cell-table f i j row column =
      let at = position i j column in
      get_or-table f (k * i + j) (cell_within i j row column) ∙ ap (λ r. word (f r ((k * i + j) % k))) at.0 ∙ ap (λ r. word (f i r)) at.1

  pub IsRow-table : (f : ℕ → ℕ → ℕ) → IsRow (17 * k) (table k f)
  IsRow-table f =
      words_from_index (17 * k) (table k f) (length-table f) (λ p h. let e = get_or-table f p h in ap word e ∙ word-word (f (p / k) (p % k)) ∙ sym e)

  -- a row is the matrix of the numbers whose words it has
  table_from_words : (v : List ℕ) (f : ℕ → ℕ → ℕ) → length v ≡ 17 * k → ((p : ℕ) → p < 17 * k → get_or v p 0 ≡ word (f (p / k) (p % k))) → v ≡ table k f
  table_from_words v f wide same =
      same_number_lists _ _ (wide ∙ sym (length-table f)) (λ p h. let below : p < 17 * k = omega arith in same p below ∙ sym (get_or-table f p below))

  pub table_from_cells : (v : List ℕ) (f : ℕ → ℕ → ℕ) → length v ≡ 17 * k
      → ((i j : ℕ) → i < 17 → j < k → cell k v i j ≡ word (f i j)) → v ≡ table k f
  table_from_cells v f wide same =
      table_from_words v f wide
      (λ p below. let some : 0 < k = omega arith in
      ap (λ q. get_or v q 0) (sym (div-add-mod p k)) ∙ same (p / k) (p % k) (div_below p k 17 some below) (mod_below p k some))

  pub same_table : (f g : ℕ → ℕ → ℕ) → ((i j : ℕ) → i < 17 → j < k → word (f i j) ≡ word (g i j)) → table k f ≡ table k g
  same_table f g same = table_from_cells (table k f) g (length-table f) (λ i j row column. cell-table f i j row column ∙ same i j row column)

-- maps of states
pub entry-matrix : (f : ℕ → ℕ → ℕ) (i j : ℕ) → i < 17 → j < 17 → entry (matrix f) i j ≡ word (f i j)
entry-matrix = cell-table 17

pub IsRow-matrix : (f : ℕ → ℕ → ℕ) → IsRow 289 (matrix f)
IsRow-matrix = IsRow-table 17

pub matrix_from_entries : (m : List ℕ) (f : ℕ → ℕ → ℕ) → length m ≡ 289
    → ((i j : ℕ) → i < 17 → j < 17 → entry m i j ≡ word (f i j)) → m ≡ matrix f
matrix_from_entries = table_from_cells 17

pub same_matrix : (f g : ℕ → ℕ → ℕ) → ((i j : ℕ) → i < 17 → j < 17 → word (f i j) ≡ word (g i j)) → matrix f ≡ matrix g
same_matrix = same_table 17

-- rows of 17 words
pub one_column : (i j : ℕ) → j < 1 → 1 * i + j ≡ i
one_column i j h = omega arith

pub get_or-vector : (f : ℕ → ℕ) (i : ℕ) → i < 17 → get_or (vector f) i 0 ≡ word (f i)
get_or-vector f i h =
    ap (λ p. get_or (vector f) p 0) (sym (one_column i 0 (omega arith))) ∙ cell-table 1 (λ i j. f i) i 0 h (omega arith)

pub IsRow-vector : (f : ℕ → ℕ) → IsRow 17 (vector f)
IsRow-vector f = IsRow-table 1 (λ i j. f i)

pub vector_from_index : (v : List ℕ) (f : ℕ → ℕ) → length v ≡ 17 → ((i : ℕ) → i < 17 → get_or v i 0 ≡ word (f i)) → v ≡ vector f
vector_from_index v f wide same =
    table_from_cells 1 v (λ i j. f i) wide (λ i j row column. ap (λ p. get_or v p 0) (one_column i j column) ∙ same i row)

pub same_vector : (f g : ℕ → ℕ) → ((i : ℕ) → i < 17 → word (f i) ≡ word (g i)) → vector f ≡ vector g
same_vector f g same = same_table 1 (λ i j. f i) (λ i j. g i) (λ i j row column. same i row)

-- a matrix of k columns that is written in order, as far as a position
pub record Written (k : ℕ) (f : ℕ → ℕ → ℕ) (at : ℕ) (xs : List ℕ) : Type 0 where
  pub long : length xs ≡ 17 * k
  pub done : (p : ℕ) → p < at → get_or xs p 0 ≡ word (f (p / k) (p % k))

pub written_none : (k n : ℕ) (f : ℕ → ℕ → ℕ) → n ≡ 17 * k → Written k f 0 (replicate n 0)
written_none k n f whole = record { long = length-replicate n 0 ∙ whole; done = λ p below. absurd (omega arith) }

pub written_more : (k n : ℕ) (f : ℕ → ℕ → ℕ) (at : ℕ) (xs : List ℕ) (w : ℕ) → n ≡ 17 * k → at < n → Written k f at xs → w ≡ word (f (at / k) (at % k))
    → Written k f (at + 1) (set xs at w)
written_more k n f at xs w whole within s now = record {
  long = length-set xs at w ∙ s.long;
  done = λ p below. elim (cases_eq p at) [
    | inl e ↦ rw e (get_or-set_same xs at w 0 (let l = s.long in omega arith) ∙ now)
    | inr other ↦ get_or-set_other xs at p w 0 other ∙ s.done p (omega arith)
  ];
}

pub table_written : (k n : ℕ) (f : ℕ → ℕ → ℕ) (at : ℕ) (xs : List ℕ) → n ≡ 17 * k → n ≤ at → Written k f at xs → xs ≡ table k f
table_written k n f at xs whole end s = table_from_words k xs f s.long (λ p below. s.done p (omega arith))

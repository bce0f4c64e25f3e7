-- Rows by their words that aren't 0.
--
--   ArePlaced n items        the positions are those of a row of n words
--   put_word row item        the row with the item's word at its position
--   dense_over row items     the row with each word at its position
--   dense n items            the row of n words with these, and 0 elsewhere
--   IsSparse n items         the positions rise and are those of a row of n words, and no word is 0
--   IsSparseOf n row sparse  so it is, and the sparse row's dense row is the row
--   AreSparseOf n rows sparse    each sparse row is that of the row of its number
--   items_of i w             the word at position i with its position, unless it is 0
use Rattle.std.specs.Prelude.{◌≡◌, ℕ, ◌<◌, ◌≤◌, ◌^◌, ◌==◌, List, [], ◌∷◌, All, AllPairs, map, replicate, slice_set, if◌then◌else◌}
use Rattle.std.specs.List.{fold}
use Rattle.proof_text.specs.declared.rows.WordAt.{WordAt}
use Rattle.proof_text.specs.declared.rows.SparseRow.{SparseRow}

abbrev pub ArePlaced : ℕ → List WordAt → Type 0
ArePlaced n items = All (λ item. item.position < n) items

abbrev pub put_word : List ℕ → WordAt → List ℕ
put_word row item = slice_set row item.position item.word

abbrev pub dense_over : List ℕ → List WordAt → List ℕ
dense_over row items = fold put_word row items

abbrev pub dense : ℕ → List WordAt → List ℕ
dense n items = dense_over (replicate n 0) items

pub record IsSparse (n : ℕ) (items : List WordAt) : Type 0 where
  pub rising : AllPairs (λ a b. a.position < b.position) items
  pub placed : ArePlaced n items
  pub words : All (λ item. (1 ≤ item.word) × (item.word < 2 ^ 64)) items

pub record IsSparseOf (n : ℕ) (row : List ℕ) (sparse : SparseRow) : Type 0 where
  pub is_sparse : IsSparse n sparse.words
  pub dense_is : dense n sparse.words ≡ row

pub record AreSparseOf (n : ℕ) (rows : List (List ℕ)) (sparse : List SparseRow) : Type 0 where
  pub are_sparse : All (λ s. IsSparse n s.words) sparse
  pub dense_are : map (λ s. dense n s.words) sparse ≡ rows

abbrev pub items_of : ℕ → ℕ → List WordAt
items_of i w = if w == 0 then [] else record { position = i; word = w } ∷ []

-- Rows of a matrix of k columns, added up one after the other.
--
--   HasAdded k i c v l n old new    the first n words of row i have got c times those of row l of v; all else is as before
--   AddsTimesRow k i c v l old new  so have all of row i, or c is 0 and nothing has changed
use Rattle.std.specs.Prelude.{◌≡◌, ◌⊎◌, ℕ, ◌+◌, ◌*◌, ◌<◌, ◌≤◌, List, length}
use Rattle.word_rows.specs.Words.{word}
use Rattle.map_modules.specs.Matrices.{cell}

pub record HasAdded (k i c : ℕ) (v : List ℕ) (l n : ℕ) (old new : List ℕ) : Type 0 where
  pub size : length new ≡ length old
  pub added : (j : ℕ) → j < n → cell k new i j ≡ word (cell k old i j + c * cell k v l j)
  pub later : (j : ℕ) → n ≤ j → j < k → cell k new i j ≡ cell k old i j
  pub others : (r j : ℕ) → j < k → (r ≡ i → ⊥) → cell k new r j ≡ cell k old r j

abbrev pub AddsTimesRow : ℕ → ℕ → ℕ → List ℕ → ℕ → List ℕ → List ℕ → Type 0
AddsTimesRow k i c v l old new = ((c ≡ 0) × (new ≡ old)) ⊎ HasAdded k i c v l k old new

-- Positions that a module has whole: every row that is 0 elsewhere is in it.
--
--   HasWhole n rows marks   where marks isn't 0, the unit row of the position is a combination of the rows
--   IsOn marks row          the row is 0 wherever marks is
use Rattle.std.specs.Prelude.{◌≡◌, ◌≢◌, ℕ, ◌<◌, List, Contains, slice_index}
use Rattle.word_rows.specs.Rows.{unit}
use Rattle.row_modules.specs.Modules.{IsCombination}

abbrev pub HasWhole : ℕ → List (List ℕ) → List ℕ → Type 0
HasWhole n rows marks = (k : ℕ) → k < n → slice_index marks k ≢ 0 → IsCombination n (Contains rows) (unit n k)

abbrev pub IsOn : List ℕ → List ℕ → Type 0
IsOn marks row = (k : ℕ) → slice_index marks k ≡ 0 → slice_index row k ≡ 0

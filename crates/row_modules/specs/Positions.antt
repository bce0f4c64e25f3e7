-- Sets of positions, as the bits of a number, and rows that are 0 outside a set.
--
--   has s i                position i is in the set s: bit i of s is 1
--   with_constant s        s and position 16, at which a state has its constant
--   IsZeroOutside s row    the row is 0 at each position that isn't in s
--   IsRowOn n s v          v is a row of n words that is 0 outside s
--   IsUnitOn n s u         u is the unit row of a position below n in s
use Rattle.std.specs.Prelude.{◌≡◌, ℕ, ◌<◌, ◌^◌, List, Bool, false, IsTrue, ◌==◌, bit_or, slice_index}
use Rattle.std.specs.Int.{bit_at}
use Rattle.word_rows.specs.Rows.{IsRow, unit}

abbrev pub has : ℕ → ℕ → Bool
has s i = bit_at s i == 1

abbrev pub with_constant : ℕ → ℕ
with_constant s = bit_or s (2 ^ 16)

abbrev pub IsZeroOutside : ℕ → List ℕ → Type 0
IsZeroOutside s row = (k : ℕ) → has s k ≡ false → slice_index row k ≡ 0

pub record IsRowOn (n s : ℕ) (v : List ℕ) : Type 0 where
  pub row : IsRow n v
  pub hidden : IsZeroOutside s v

pub record IsUnitOn (n s : ℕ) (u : List ℕ) : Type 0 where
  pub position : ℕ
  pub within : position < n
  pub there : IsTrue (has s position)
  pub is : u ≡ unit n position

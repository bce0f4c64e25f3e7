-- Leading-position bases: the echelon form of a list of rows over words, in which a pivot may be even.
--
--   Leads n row rest        row leads the rows of rest: a row of n words that isn't 0, whose pivot is
--                           a power of two 2^t, whose lead is before theirs, and 2^(64-t) times which
--                           is a combination of rest
--   IsLeadingBasis n rows   each row leads the rows after it
--   IsReduced rows          in the column of each pivot, every earlier row's word is below the pivot
--   basis_length rows       the sum of 64 - t over the pivots 2^t
--   is_used rows k          whether some row isn't 0 at position k
--   used_positions n rows   how many positions below n are used
use Rattle.std.specs.Prelude.{◌≡◌, ℕ, zero, suc, ◌<◌, ◌+◌, ◌-◌, ◌^◌, List, [], ◌∷◌, All, Contains, slice_index, Bool, false, not, ◌||◌, ◌==◌, if◌then◌else◌}
use Rattle.std.specs.Int.{w64, trailing_zeros}
use Rattle.word_rows.specs.Rows.{words_of, times, lead, pivot, IsRow}
use Rattle.row_modules.specs.Modules.{IsCombination}

pub record Leads (n : ℕ) (row : List ℕ) (rest : List (List ℕ)) : Type 0 where
  pub is_row : IsRow n row
  pub within : lead row < n
  pub power : ℕ
  pub small : power < 64
  pub is_pivot : pivot row ≡ 2 ^ power
  pub later : All (λ r. lead row < lead r) rest
  pub closing : IsCombination n (Contains rest) (words_of (times (2 ^ (64 - power)) row))

abbrev pub IsLeadingBasis : ℕ → List (List ℕ) → Type 0
IsLeadingBasis n [] = Unit {0}
IsLeadingBasis n (row ∷ rest) = Leads n row rest × IsLeadingBasis n rest

abbrev pub IsReduced : List (List ℕ) → Type 0
IsReduced [] = Unit {0}
IsReduced (row ∷ rest) = All (λ r. slice_index row (lead r) < pivot r) rest × IsReduced rest

abbrev pub basis_length : List (List ℕ) → ℕ
basis_length [] = 0
basis_length (row ∷ rest) = (64 - trailing_zeros w64 (pivot row)) + basis_length rest

abbrev pub is_used : List (List ℕ) → ℕ → Bool
is_used [] k = false
is_used (row ∷ rest) k = not (slice_index row k == 0) || is_used rest k

abbrev pub used_positions : ℕ → List (List ℕ) → ℕ
used_positions zero rows = 0
used_positions (suc n) rows = used_positions n rows + (if is_used rows n then 1 else 0)

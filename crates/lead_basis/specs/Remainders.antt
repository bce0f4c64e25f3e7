-- Rows less multiples of other rows.
--
--   TakesMultiple n by row rest      rest is row less a multiple of `by`: the quotient of its word at the lead of `by`
--                                    and the pivot, so that the remainder stands there
--   IsNormal n row own               own is row times an invertible word, and its pivot is a power of two
--   IsRemainder n basis row rest     row is rest and a combination of the basis, and at the lead of each row of the
--                                    basis the word of rest is below the pivot
use Rattle.std.specs.Prelude.{◌≡◌, ℕ, ◌<◌, ◌/◌, ◌%◌, ◌^◌, List, All, Contains, slice_index}
use Rattle.word_rows.specs.Rows.{words_of, plus, times, lead, pivot, IsRow}
use Rattle.row_modules.specs.Modules.{IsCombination}

pub record TakesMultiple (n : ℕ) (by row rest : List ℕ) : Type 0 where
  pub is_row : IsRow n rest
  pub is : row ≡ words_of (plus (slice_index row (lead by) / pivot by) rest by)
  pub left : slice_index rest (lead by) ≡ slice_index row (lead by) % pivot by

pub record IsNormal (n : ℕ) (row own : List ℕ) : Type 0 where
  pub is_row : IsRow n own
  pub same_lead : lead own ≡ lead row
  pub power : ℕ
  pub small : power < 64
  pub is_pivot : pivot own ≡ 2 ^ power
  pub factor : ℕ
  pub is : own ≡ words_of (times factor row)
  pub inverse : ℕ
  pub back : row ≡ words_of (times inverse own)

pub record IsRemainder (n : ℕ) (basis : List (List ℕ)) (row rest : List ℕ) : Type 0 where
  pub is_row : IsRow n rest
  pub taken : List ℕ
  pub combination : IsCombination n (Contains basis) taken
  pub is : row ≡ words_of (plus 1 rest taken)
  pub below : All (λ r. slice_index rest (lead r) < pivot r) basis

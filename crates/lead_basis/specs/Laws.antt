-- The laws of leading-position bases, each for all widths and lists.
--
--   Reduces n old new       new is a reduced basis, with the module of the basis old
--   RowsGenerate            the rows of a basis generate its module
--   FormsVanish             a form that is 0 at each row of a basis is 0 on its module
--   NoRowsForZero           a basis has no row exactly where its module has the zero row alone
--   OneReducedBasis         a module has one reduced basis
--   HasBasis n rows         the module of the list has a basis, no longer than 64 times the positions that the list uses
--   EachListHasBasis        so has each list of rows
--   LongerModules           a basis of a module within another's is no longer than one of that
use Rattle.std.specs.Prelude.{◌≡◌, ℕ, ◌*◌, ◌≤◌, ◌↔◌, List, [], All, Contains, replicate}
use Rattle.word_rows.specs.Rows.{dot}
use Rattle.row_modules.specs.Modules.{AreRows, IsCombination, Generates, IsWithin, SameModule}
use Rattle.row_modules.specs.Bases.{IsLeadingBasis, IsReduced, basis_length, used_positions}
use Rattle.row_modules.specs.Forms.{Vanishes}

pub record Reduces (n : ℕ) (old new : List (List ℕ)) : Type 0 where
  pub basis : IsLeadingBasis n new
  pub reduced : IsReduced new
  pub same_module : SameModule n (Contains new) (Contains old)

abbrev pub RowsGenerate : Type 0
RowsGenerate = (n : ℕ) (rows : List (List ℕ)) → IsLeadingBasis n rows → Generates n rows (IsCombination n (Contains rows))

abbrev pub FormsVanish : Type 0
FormsVanish = (n : ℕ) (rows : List (List ℕ)) (a : List ℕ) → IsLeadingBasis n rows → All (λ r. dot a r ≡ 0) rows → Vanishes a (IsCombination n (Contains rows))

abbrev pub NoRowsForZero : Type 0
NoRowsForZero =
    (n : ℕ) (rows : List (List ℕ)) → IsLeadingBasis n rows
    → ((rows ≡ []) ↔ ((v : List ℕ) → IsCombination n (Contains rows) v → v ≡ replicate n 0))

abbrev pub OneReducedBasis : Type 0
OneReducedBasis =
    (n : ℕ) (rows others : List (List ℕ)) → IsLeadingBasis n rows → IsLeadingBasis n others → IsReduced rows → IsReduced others
    → SameModule n (Contains rows) (Contains others) → rows ≡ others

pub record HasBasis (n : ℕ) (rows : List (List ℕ)) : Type 0 where
  pub basis : List (List ℕ)
  pub is_basis : IsLeadingBasis n basis
  pub same_module : SameModule n (Contains basis) (Contains rows)
  pub short : basis_length basis ≤ 64 * used_positions n rows

abbrev pub EachListHasBasis : Type 0
EachListHasBasis = (n : ℕ) (rows : List (List ℕ)) → AreRows n (Contains rows) → HasBasis n rows

abbrev pub LongerModules : Type 0
LongerModules =
    (n : ℕ) (rows others : List (List ℕ)) → IsLeadingBasis n rows → IsLeadingBasis n others → IsWithin n (Contains rows) (Contains others)
    → basis_length rows ≤ basis_length others

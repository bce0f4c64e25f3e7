-- A basis that is built by inserting rows, counted.
--
--   IsBuilt rows basis before after   the basis has the module of the rows, and the counter rose by at least its number of rows and
--                                     at most its length
use Rattle.std.specs.Prelude.{ℕ, ◌+◌, ◌≤◌, List, length, Contains}
use Rattle.row_modules.specs.Bases.{basis_length}
use Rattle.merged_heads.specs.Pushes.{IsBasisOf}

pub record IsBuilt (rows basis : List (List ℕ)) (before after : ℕ) : Type 0 where
  pub of_rows : IsBasisOf (Contains rows) basis
  pub rises : before ≤ after
  pub counts_no_more : after ≤ before + basis_length basis
  pub counts_rows : before + length basis ≤ after

-- What is answered.
--
--   IsNarrowAnswer s P rows    rows are the reduced narrow basis of the rows that hold on P modulo 2^32 and use the positions of s
use Rattle.std.specs.Prelude.{ℕ, List}
use Rattle.row_modules.specs.Bases.{IsReduced}
use Rattle.narrow_solver.specs.Narrow.{IsNarrowBasis, NarrowGenerates, NarrowHolds}

pub record IsNarrowAnswer (s : ℕ) (P : List ℕ → Type 0) (rows : List (List ℕ)) : Type 0 where
  pub basis : IsNarrowBasis 17 rows
  pub reduced : IsReduced rows
  pub generates : NarrowGenerates 17 rows (NarrowHolds s P)

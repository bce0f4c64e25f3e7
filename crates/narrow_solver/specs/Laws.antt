-- Laws on narrow answers. P and S are sets of rows.
--
--   NarrowAnswersAreOne S     a set of rows has one reduced narrow basis
--   FollowNarrowStates P      where the states of P span the module of a list: the module is 0 modulo 2^32 exactly where P is
--                             empty, the answer for the module is the answer for P, and where P has a state, what holds on P
--                             modulo 2^32 doesn't lead at position 16
use Rattle.std.specs.Prelude.{◌≡◌, ◌≢◌, ◌↔◌, ℕ, List, Contains}
use Rattle.word_rows.specs.Rows.{lead, IsState}
use Rattle.row_modules.specs.Modules.{IsCombination, SameModule}
use Rattle.row_modules.specs.Bases.{IsReduced}
use Rattle.narrow_solver.specs.Narrow.{IsNarrowBasis, IsNarrowZero, NarrowGenerates, NarrowHolds}
use Rattle.narrow_solver.specs.Answers.{IsNarrowAnswer}

abbrev pub NarrowAnswersAreOne : (List ℕ → Type 0) → Type 0
NarrowAnswersAreOne S =
    (n : ℕ) (rows others : List (List ℕ)) → IsNarrowBasis n rows → IsNarrowBasis n others → IsReduced rows → IsReduced others
    → NarrowGenerates n rows S → NarrowGenerates n others S → rows ≡ others

pub record FollowNarrowStates (P : List ℕ → Type 0) : Type 0 where
  pub unreached : (basis : List (List ℕ)) → ((v : List ℕ) → P v → IsState v) → SameModule 17 P (Contains basis) → IsNarrowZero 17 (Contains basis) ↔ ((v : List ℕ) → ¬ P v)
  pub answer : (basis rows : List (List ℕ)) (visible : ℕ) → ((v : List ℕ) → P v → IsState v) → SameModule 17 P (Contains basis)
      → IsNarrowAnswer visible (IsCombination 17 (Contains basis)) rows → IsNarrowAnswer visible P rows
  pub no_constant : (v a : List ℕ) (visible : ℕ) → P v → IsState v → NarrowHolds visible P a → lead a ≢ 16

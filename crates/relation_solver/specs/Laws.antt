-- From the relations of a module to those of the states that span it.
--
--   FollowStates P     where the states of P span the module of a list: the module is zero exactly where P is empty, rows
--                      that generate what annihilates the module generate what annihilates P, and where P has a state,
--                      what annihilates P doesn't lead at position 16
use Rattle.std.specs.Prelude.{◌≢◌, ℕ, ◌↔◌, List, Contains}
use Rattle.word_rows.specs.Rows.{lead, IsState}
use Rattle.row_modules.specs.Modules.{IsCombination, Generates, SameModule}
use Rattle.row_modules.specs.Forms.{Annihilates}
use Rattle.relation_solver.specs.Zero.{HasZeroAlone}

pub record FollowStates (P : List ℕ → Type 0) : Type 0 where
  pub unreached : (basis : List (List ℕ)) → ((v : List ℕ) → P v → IsState v) → SameModule 17 P (Contains basis) → HasZeroAlone 17 (Contains basis) ↔ ((v : List ℕ) → ¬ P v)
  pub generated : (basis rows : List (List ℕ)) (visible : ℕ) → ((v : List ℕ) → P v → IsState v) → SameModule 17 P (Contains basis)
      → Generates 17 rows (Annihilates visible (IsCombination 17 (Contains basis))) → Generates 17 rows (Annihilates visible P)
  pub no_constant : (v a : List ℕ) (visible : ℕ) → P v → IsState v → Annihilates visible P a → lead a ≢ 16

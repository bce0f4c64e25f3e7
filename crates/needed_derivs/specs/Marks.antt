-- Marks of derivations, each at the place of its derivation.
--
--   IsMarked marks j           place j is marked
--   HasMark marks n            derivation number n is marked
--   Marks numbers old new      these numbers are marked, and what was marked before; nothing else changes
--   named_where marked deriv   the numbers that the derivation names, where it is marked
--   AreMarks derivs path marks   exactly the derivations that the path needs are marked
use Rattle.std.specs.Prelude.{◌≡◌, ◌⊎◌, ℕ, ◌+◌, Bool, true, List, [], Contains, Some, length, slice_get, if◌then◌else◌}
use Rattle.refute_path.specs.declared.derivations.Deriv.{Deriv}
use Rattle.needed_derivs.specs.Needed.{numbers_in, IsNeeded}

abbrev pub IsMarked : List Bool → ℕ → Type 0
IsMarked marks j = slice_get marks j ≡ Some true

abbrev pub HasMark : List Bool → ℕ → Type 0
HasMark marks n = (j : ℕ) × (n ≡ j + 1) × IsMarked marks j

pub record Marks (numbers : List ℕ) (old new : List Bool) : Type 0 where
  pub size : length new ≡ length old
  pub more : (j : ℕ) → IsMarked old j → IsMarked new j
  pub marked : (n : ℕ) → Contains numbers n → HasMark new n
  pub only : (j : ℕ) → IsMarked new j → IsMarked old j ⊎ Contains numbers (j + 1)

abbrev pub named_where : Bool → Deriv → List ℕ
named_where marked deriv = if marked then numbers_in deriv else []

pub record AreMarks (derivs : List Deriv) (path : List ℕ) (marks : List Bool) : Type 0 where
  pub size : length marks ≡ length derivs
  pub path_marked : (n : ℕ) → Contains path n → HasMark marks n
  pub closed : (k : ℕ) (d : Deriv) → IsMarked marks k → slice_get derivs k ≡ Some d → (n : ℕ) → Contains (numbers_in d) n → HasMark marks n
  pub only : (k : ℕ) → IsMarked marks k → IsNeeded derivs path (k + 1)

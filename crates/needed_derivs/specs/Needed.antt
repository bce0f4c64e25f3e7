-- Which derivations a path needs.
--
--   IsNumberUpTo k n           n is one of the numbers from 1 to k
--   numbers_in deriv           the numbers that a derivation names
--   AreEarlier derivs          each derivation names earlier ones alone
--   IsOrdered derivs path      so it is, and the path has numbers of derivations
--   IsOrderedIn answer         so it is of a counterexample
--   IsNeeded derivs path n     n stands in the path, or a needed derivation names it
--   AreNeeded found            each derivation of the counterexample is needed
--   AreNeededIn answer         so is each of an answer
use Rattle.std.specs.Prelude.{◌≡◌, ℕ, ◌+◌, ◌≤◌, List, [], ◌∷◌, All, Contains, Some, length, slice_get}
use Rattle.refute_path.specs.declared.answer.Refuted.{Refuted}
use Rattle.refute_path.specs.declared.answer.Refuted.TheVariants.{Holds, Broken}
use Rattle.refute_path.specs.declared.derivations.Break.{Break}
use Rattle.refute_path.specs.declared.derivations.Deriv.{Deriv}
use Rattle.refute_path.specs.declared.derivations.Deriv.TheVariants.{Opening, Step, Call}

abbrev pub IsNumberUpTo : ℕ → ℕ → Type 0
IsNumberUpTo k n = (1 ≤ n) × (n ≤ k)

abbrev pub numbers_in : Deriv → List ℕ
numbers_in (Opening p slots) = []
numbers_in (Step before e choice) = before ∷ []
numbers_in (Call before e callee) = before ∷ callee ∷ []

abbrev pub AreEarlier : List Deriv → Type 0
AreEarlier derivs = (k : ℕ) (d : Deriv) → slice_get derivs k ≡ Some d → All (IsNumberUpTo k) (numbers_in d)

pub record IsOrdered (derivs : List Deriv) (path : List ℕ) : Type 0 where
  pub earlier : AreEarlier derivs
  pub path_within : All (IsNumberUpTo (length derivs)) path

abbrev pub IsOrderedIn : Refuted → Type 0
IsOrderedIn Holds = Unit {0}
IsOrderedIn (Broken found) = IsOrdered found.derivs found.path

pub data IsNeeded (derivs : List Deriv) (path : List ℕ) : ℕ → Type 0 where
  on_path : (n : ℕ) → Contains path n → IsNeeded derivs path n
  named : (n k : ℕ) (d : Deriv) → IsNeeded derivs path (k + 1) → slice_get derivs k ≡ Some d → Contains (numbers_in d) n → IsNeeded derivs path n

abbrev pub AreNeeded : Break → Type 0
AreNeeded found = (n : ℕ) → IsNumberUpTo (length found.derivs) n → IsNeeded found.derivs found.path n

abbrev pub AreNeededIn : Refuted → Type 0
AreNeededIn Holds = Unit {0}
AreNeededIn (Broken found) = AreNeeded found

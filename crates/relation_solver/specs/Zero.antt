-- The module that has the zero row alone.
--
--   HasZeroAlone n P     the module of P has the zero row alone
use Rattle.std.specs.Prelude.{◌≡◌, ℕ, List, replicate}
use Rattle.row_modules.specs.Modules.{IsCombination}

abbrev pub HasZeroAlone : ℕ → (List ℕ → Type 0) → Type 0
HasZeroAlone n P = (v : List ℕ) → IsCombination n P v → v ≡ replicate n 0

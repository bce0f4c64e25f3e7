-- What annihilates modules that have other generators.
--
--   GeneratorsTell P Q         where P and Q generate one module, a row annihilates P exactly where it annihilates the
--                              module of Q, and where it annihilates Q
use Rattle.std.specs.Prelude.{ℕ, ◌↔◌, List}
use Rattle.row_modules.specs.Modules.{AreRows, IsCombination, SameModule}
use Rattle.row_modules.specs.Forms.{Annihilates}

pub record GeneratorsTell (P Q : List ℕ → Type 0) : Type 0 where
  pub of_module : AreRows 17 P → AreRows 17 Q → SameModule 17 P Q → (visible : ℕ) (a : List ℕ) → Annihilates visible P a ↔ Annihilates visible (IsCombination 17 Q) a
  pub of_generators : AreRows 17 P → AreRows 17 Q → SameModule 17 P Q → (visible : ℕ) (a : List ℕ) → Annihilates visible P a ↔ Annihilates visible Q a

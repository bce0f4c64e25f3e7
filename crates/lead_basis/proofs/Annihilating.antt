-- What annihilates a module.
use Rattle.std.proofs.Common.{◌↔◌, ℕ, List}
use Rattle.row_modules.specs.Modules.{AreRows, IsCombination, SameModule}
use Rattle.row_modules.proofs.Laws.{generator, vanishes_on_module}
use Rattle.row_modules.specs.Forms.{Annihilates}

-- a row annihilates a set exactly where it annihilates the module that the set spans
pub same_annihilators : (P Q : List ℕ → Type 0) → AreRows 17 P → SameModule 17 P Q → (visible : ℕ) (a : List ℕ) → Annihilates visible P a ↔ Annihilates visible (IsCombination 17 Q) a
same_annihilators P Q rows same visible a = (
  λ n. record { on_visible = n.on_visible; vanishes = λ v c. vanishes_on_module 17 P rows a n.vanishes v (same.back v c) },
  λ n. record { on_visible = n.on_visible; vanishes = λ v h. n.vanishes v (same.there v (generator 17 P rows v h)) },
)

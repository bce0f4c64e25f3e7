-- What is answered.
--
--   OnRows r F     where the answer r has rows, F is a fact about them
use Rattle.std.specs.Prelude.{ℕ, List}
use Rattle.relation_solver.specs.declared.Relations.{Relations}
use Rattle.relation_solver.specs.declared.Relations.TheVariants.{Unreached, Rows}

abbrev pub OnRows : Relations → (List (List ℕ) → Type 0) → Type 0
OnRows Unreached F = Unit {0}
OnRows (Rows rows) F = F rows

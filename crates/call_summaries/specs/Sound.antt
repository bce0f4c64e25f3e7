-- Rows that maps of level paths span.
--
--   IsSound program u m        m is a combination of the maps of the level paths to node u
--   AreSound program s         so is each combination of the rows of a node
--   IsReturned program kind m  where an edge of this kind calls, m is such a combination at the callee's exit
use Rattle.std.specs.Prelude.{ℕ, List, Contains}
use Rattle.row_modules.specs.Modules.{IsCombination, IsWithin}
use Rattle.affine_prog.specs.declared.Program.{Program}
use Rattle.affine_prog.specs.declared.Kind.{Kind}
use Rattle.affine_prog.specs.declared.Kind.TheVariants.{Do, Call}
use Rattle.affine_prog.specs.Programs.{exit_of}
use Rattle.affine_prog.specs.Spans.{IsMapTo}
use Rattle.row_engine.specs.States.{State, rows_at}

abbrev pub IsSound : Program → ℕ → List ℕ → Type 0
IsSound program u m = IsCombination 289 (IsMapTo program u) m

abbrev pub AreSound : Program → State → Type 0
AreSound program s = (u : ℕ) → IsWithin 289 (Contains (rows_at s u)) (IsMapTo program u)

abbrev pub IsReturned : Program → Kind → List ℕ → Type 0
IsReturned program (Do assigns) m = Unit {0}
IsReturned program (Call q before) m = IsSound program (exit_of program q) m

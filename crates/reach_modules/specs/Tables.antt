-- What is looked up: the edges that leave a node, and the basis of a procedure's exit.
--
--   AlongSome program ks v m             m is the map of a move to node v along one of the edges with these numbers
--   ArePlaces program bases places       for each procedure the place, among the bases, of one of the module of the maps of its
--                                        level paths to its exit
--   ArePositions set positions           the positions below 16 of a set
use Rattle.std.specs.Prelude.{◌≡◌, ℕ, ◌<◌, ◌↔◌, List, Contains, length, slice_index, IsTrue}
use Rattle.row_modules.specs.Modules.{SameModule}
use Rattle.row_modules.specs.Positions.{has}
use Rattle.affine_prog.specs.declared.Program.{Program}
use Rattle.affine_prog.specs.Spans.{rows_at, IsMapOf}
use Rattle.row_engine.specs.Tables.{edge_at}
use Rattle.reach_modules.specs.Moves.{EdgeMap}

abbrev pub AlongSome : Program → List ℕ → ℕ → List ℕ → Type 0
AlongSome program ks v m = (k : ℕ) × Contains ks k × EdgeMap program (edge_at program k) v m

pub record ArePlaces (program : Program) (bases : List (List (List ℕ))) (places : List ℕ) : Type 0 where
  pub each : length places ≡ length program.procs
  pub within : (q : ℕ) → q < length program.procs → slice_index places q < length bases
  pub exact : (q : ℕ) → q < length program.procs → SameModule 289 (Contains (rows_at bases (slice_index places q))) (IsMapOf program q)

abbrev pub ArePositions : ℕ → List ℕ → Type 0
ArePositions set positions = (k : ℕ) → Contains positions k ↔ ((k < 16) × IsTrue (has set k))

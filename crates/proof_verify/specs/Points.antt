-- The states of a point, by the rows that a proof gives.
--
--   IsPointState levels entries i p chain v    v is what a row of head i, and the chain behind it under some choice, make of an
--                                              entry row of procedure p
--   HasPointStates levels entries i p chain rows    the rows generate the module of these states
--   AreProducts maps states rows               the rows are what the maps make of the states, and no others
--   IsHeadBasis maps states basis              the basis has the module of what the maps make of the states
--   IsPlaced program blocks u                  node u is behind a head of that number, by that chain
--   HasStatesAt program blocks levels entries u rows    the rows generate the states of node u
--   HaveStatesBelow program blocks levels entries n kept    a list for each node below n, which generates its states
use Rattle.std.specs.Prelude.{◌≡◌, ◌↔◌, ℕ, ◌<◌, List, Contains, Some, length}
use Rattle.row_modules.specs.Modules.{AreRows, SameModule}
use Rattle.row_modules.specs.Maps.{Products}
use Rattle.map_modules.specs.Matrices.{apply}
use Rattle.affine_prog.specs.declared.Program.{Program}
use Rattle.affine_prog.specs.declared.Assign.{Assign}
use Rattle.affine_prog.specs.Programs.{owner_of}
use Rattle.affine_prog.specs.Assignments.{Choice}
use Rattle.affine_prog.specs.LevelPaths.{step_map}
use Rattle.affine_prog.specs.Spans.{rows_at}
use Rattle.merged_heads.specs.Chains.{Chain}
use Rattle.block_program.specs.Contractions.{Contraction}
use Rattle.block_program.specs.Numbers.{number_of}

pub record IsPointState (levels entries : List (List (List ℕ))) (i p : ℕ) (chain : List Assign) (v : List ℕ) : Type 0 where
  pub words : List ℕ
  pub map : List ℕ
  pub entered : List ℕ
  pub choice : Choice chain words
  pub in_levels : Contains (rows_at levels i) map
  pub in_entries : Contains (rows_at entries p) entered
  pub is : v ≡ apply (step_map chain words map) entered

pub record HasPointStates (levels entries : List (List (List ℕ))) (i p : ℕ) (chain : List Assign) (rows : List (List ℕ)) : Type 0 where
  pub are_rows : AreRows 17 (Contains rows)
  pub same : SameModule 17 (Contains rows) (IsPointState levels entries i p chain)

abbrev pub AreProducts : List (List ℕ) → List (List ℕ) → List (List ℕ) → Type 0
AreProducts maps states rows = (v : List ℕ) → Contains rows v ↔ Products apply (Contains maps) (Contains states) v

pub record IsHeadBasis (maps states basis : List (List ℕ)) : Type 0 where
  pub are_rows : AreRows 17 (Contains basis)
  pub same : SameModule 17 (Contains basis) (Products apply (Contains maps) (Contains states))

pub record IsPlaced (program : Program) (blocks : Contraction) (u : ℕ) : Type 0 where
  pub node : ℕ
  pub head : ℕ
  pub number : number_of blocks node ≡ Some head
  pub chain : List Assign
  pub leads : Chain program blocks.merging node u chain

pub record HasStatesAt (program : Program) (blocks : Contraction) (levels entries : List (List (List ℕ))) (u : ℕ) (rows : List (List ℕ)) : Type 0 where
  pub place : IsPlaced program blocks u
  pub states : HasPointStates levels entries place.head (owner_of program u) place.chain rows

pub record HaveStatesBelow (program : Program) (blocks : Contraction) (levels entries : List (List (List ℕ))) (n : ℕ) (kept : List (List (List ℕ))) : Type 0 where
  pub long : length kept ≡ n
  pub at : (v : ℕ) → v < n → HasStatesAt program blocks levels entries v (rows_at kept v)

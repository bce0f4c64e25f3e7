-- What comes to a node of a program with a merged table, in the program itself.
--
--   LevelPathsFollow       the maps of the level paths to a node are those of its head pushed along its chain
--   OpenPathsFollow        so for the states of open paths
--   IsStepFrom program start u assigns v   v is what the assignments, under a choice, make of the state of an open path to u
--   MergedStatesFollow     the states at a merged node are what its edge makes of those at its parent
--   StatesArePassedOn      where the edge assigns nothing, they are the states at the parent
--   MergedModulesFollow    so are the modules that the states generate
--   MergedPlacesAreFew     the placements of the rows of that module are at most 64 for each name and the constant
--   ChainsExist, ChainsAreUnique   each node has a chain, from one head
use Rattle.std.specs.Prelude.{◌≡◌, ℕ, ◌<◌, ◌↔◌, ◌+◌, ◌*◌, ◌≤◌, List, [], Contains}
use Rattle.row_modules.specs.Modules.{AreRows, SameModule}
use Rattle.map_modules.specs.Matrices.{apply}
use Rattle.affine_prog.specs.declared.Program.{Program}
use Rattle.affine_prog.specs.declared.Assign.{Assign}
use Rattle.affine_prog.specs.Programs.{IsWellFormed}
use Rattle.affine_prog.specs.Assignments.{Choice, matrix_of}
use Rattle.affine_prog.specs.LevelPaths.{LevelPath}
use Rattle.affine_prog.specs.OpenPaths.{OpenPath}
use Rattle.affine_prog.specs.Spans.{IsStateAt}
use Rattle.merged_heads.specs.Pushes.{MakesOf, CountsBases}
use Rattle.merged_heads.specs.declared.Merging.{Merging}
use Rattle.merged_heads.specs.Merges.{IsParent, IsMergedTable}
use Rattle.merged_heads.specs.Chains.{Chain}
use Rattle.merged_heads.specs.Laws.{IsLevelAlong, IsOpenAlong}

abbrev pub LevelPathsFollow : Type 0
LevelPathsFollow =
    (program : Program) (table : Merging) → IsWellFormed program → IsMergedTable program table
    → (p h u : ℕ) (chain : List Assign) (m : List ℕ) → Chain program table h u chain
    → (LevelPath program p u m ↔ IsLevelAlong program p h chain m)

abbrev pub OpenPathsFollow : Type 0
OpenPathsFollow =
    (program : Program) (table : Merging) → IsWellFormed program → IsMergedTable program table
    → (start : List ℕ) (h u : ℕ) (chain : List Assign) (v : List ℕ) → Chain program table h u chain
    → (OpenPath program start u v ↔ IsOpenAlong program start h chain v)

pub record IsStepFrom (program : Program) (start : List ℕ) (u : ℕ) (assigns : List Assign) (v : List ℕ) : Type 0 where
  pub words : List ℕ
  pub before : List ℕ
  pub choice : Choice assigns words
  pub path : OpenPath program start u before
  pub state : v ≡ apply (matrix_of assigns words) before

abbrev pub MergedStatesFollow : Type 0
MergedStatesFollow =
    (program : Program) (table : Merging) → IsWellFormed program → IsMergedTable program table
    → (u v : ℕ) (assigns : List Assign) → v < program.nodes → IsParent program table v u assigns
    → (start state : List ℕ) → (OpenPath program start v state ↔ IsStepFrom program start u assigns state)

abbrev pub StatesArePassedOn : Type 0
StatesArePassedOn =
    (program : Program) (table : Merging) → IsWellFormed program → IsMergedTable program table
    → (u v : ℕ) → v < program.nodes → IsParent program table v u []
    → (state : List ℕ) → (IsStateAt program v state ↔ IsStateAt program u state)

abbrev pub ChainsExist : Type 0
ChainsExist =
    (program : Program) (table : Merging) → IsWellFormed program → IsMergedTable program table
    → (v : ℕ) → v < program.nodes → (h : ℕ) × (chain : List Assign) × Chain program table h v chain

abbrev pub ChainsAreUnique : Type 0
ChainsAreUnique =
    (program : Program) (table : Merging) (v h k : ℕ) (chain other : List Assign) → Chain program table h v chain → Chain program table k v other → (h ≡ k) × (chain ≡ other)

abbrev pub MergedModulesFollow : Type 0
MergedModulesFollow =
    (program : Program) (table : Merging) → IsWellFormed program → IsMergedTable program table
    → (u v : ℕ) (assigns : List Assign) → v < program.nodes → IsParent program table v u assigns
    → (rows : List (List ℕ)) → AreRows 17 (Contains rows) → SameModule 17 (Contains rows) (IsStateAt program u)
    → SameModule 17 (MakesOf assigns rows) (IsStateAt program v)

abbrev pub MergedPlacesAreFew : Type 0
MergedPlacesAreFew =
    (program : Program) (table : Merging) → IsWellFormed program → IsMergedTable program table
    → (u v : ℕ) (assigns : List Assign) → v < program.nodes → IsParent program table v u assigns
    → (rows : List (List ℕ)) → AreRows 17 (Contains rows) → SameModule 17 (Contains rows) (IsStateAt program u)
    → (before after : ℕ) → CountsBases (MakesOf assigns rows) before after → after ≤ before + 64 * (program.width + 1)

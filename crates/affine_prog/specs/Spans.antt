-- What the maps and the states of paths span, told by one list of rows for each node, or for each procedure.
--
--   rows_at lists i           the rows of list i, and none where there is no list i
--   IsMapTo program u m       m is the map of a level path to node u, of the procedure that owns it
--   IsMapOf program p m       m is the map of a level path of procedure p to its exit
--   IsStateAt program u v     v is the state of an open path to node u from some start
--   AreLevels program lists   one list for each node, with the module that the maps of the level paths to the node generate
--   AreExits program lists    one list for each procedure, with the module that the maps of its level paths to its exit generate
--   AreReached program lists  one list for each node, with the module that the states of the open paths to the node generate,
--                             from all starts
use Rattle.std.specs.Prelude.{◌≡◌, ℕ, ◌<◌, List, [], Contains, length, slice_index_or}
use Rattle.row_modules.specs.Modules.{SameModule}
use Rattle.affine_prog.specs.declared.Program.{Program}
use Rattle.affine_prog.specs.Programs.{exit_of, owner_of}
use Rattle.affine_prog.specs.LevelPaths.{LevelPath}
use Rattle.affine_prog.specs.OpenPaths.{Start, OpenPath}

abbrev pub rows_at : List (List (List ℕ)) → ℕ → List (List ℕ)
rows_at lists i = slice_index_or lists i []

abbrev pub IsMapTo : Program → ℕ → List ℕ → Type 0
IsMapTo program u m = LevelPath program (owner_of program u) u m

abbrev pub IsMapOf : Program → ℕ → List ℕ → Type 0
IsMapOf program p m = LevelPath program p (exit_of program p) m

pub record IsStateAt (program : Program) (u : ℕ) (v : List ℕ) : Type 0 where
  pub start : List ℕ
  pub is_start : Start program start
  pub path : OpenPath program start u v

pub record AreLevels (program : Program) (lists : List (List (List ℕ))) : Type 0 where
  pub each : length lists ≡ program.nodes
  pub exact : (u : ℕ) → u < program.nodes → SameModule 289 (Contains (rows_at lists u)) (IsMapTo program u)

pub record AreExits (program : Program) (lists : List (List (List ℕ))) : Type 0 where
  pub each : length lists ≡ length program.procs
  pub exact : (p : ℕ) → p < length program.procs → SameModule 289 (Contains (rows_at lists p)) (IsMapOf program p)

pub record AreReached (program : Program) (lists : List (List (List ℕ))) : Type 0 where
  pub each : length lists ≡ program.nodes
  pub exact : (u : ℕ) → u < program.nodes → SameModule 17 (Contains (rows_at lists u)) (IsStateAt program u)

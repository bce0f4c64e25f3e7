-- Which procedures are to be solved, and what solves them.
--
--   IsWanted wanted p            procedure p is to be solved
--   OthersStay program wanted    no other procedure has a level path to its exit
--   IsChoiceOfProcs program wanted   wanted says it for each procedure, and the others stay
--   IsSolved program wanted bases    one list for each node, in the module of the maps of the level paths to it, and with that
--                                module where the procedure is to be solved
use Rattle.std.specs.Prelude.{◌≡◌, ℕ, List, Contains, Bool, true, length, slice_index_or}
use Rattle.row_modules.specs.Modules.{IsWithin}
use Rattle.affine_prog.specs.declared.Program.{Program}
use Rattle.affine_prog.specs.Programs.{owner_of}
use Rattle.affine_prog.specs.Spans.{rows_at, IsMapTo, IsMapOf}

abbrev pub IsWanted : List Bool → ℕ → Type 0
IsWanted wanted p = slice_index_or wanted p true ≡ true

abbrev pub OthersStay : Program → List Bool → Type 0
OthersStay program wanted = (p : ℕ) (m : List ℕ) → ¬ IsWanted wanted p → ¬ IsMapOf program p m

pub record IsChoiceOfProcs (program : Program) (wanted : List Bool) : Type 0 where
  pub each : length wanted ≡ length program.procs
  pub others : OthersStay program wanted

pub record IsSolved (program : Program) (wanted : List Bool) (bases : List (List (List ℕ))) : Type 0 where
  pub each : length bases ≡ program.nodes
  pub sound : (u : ℕ) → IsWithin 289 (Contains (rows_at bases u)) (IsMapTo program u)
  pub exact : (u : ℕ) → IsWanted wanted (owner_of program u) → IsWithin 289 (IsMapTo program u) (Contains (rows_at bases u))

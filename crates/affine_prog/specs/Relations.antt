-- What holds in a program after every path. No basis, sweep or worklist stands in these definitions.
--
--   IsReached program u     some open path from some start ends at node u
--   Holds program u a       the relation a holds at node u: it is 0 at each position below 16 that isn't visible there, and
--                           a . v is 0 for the state v of every open path to u from every start. Where u isn't reached,
--                           each such row holds
--   Returns program p       some level path of procedure p ends at its exit
--   Certified program p r   every level path of procedure p to its exit leaves position r as it was, from every state
use Rattle.std.specs.Prelude.{◌≡◌, ℕ, List, slice_index}
use Rattle.word_rows.specs.Rows.{IsRow, IsState, dot}
use Rattle.row_modules.specs.Positions.{with_constant, IsZeroOutside}
use Rattle.map_modules.specs.Matrices.{apply}
use Rattle.affine_prog.specs.declared.Program.{Program}
use Rattle.affine_prog.specs.Programs.{exit_of, owner_of, visible_in}
use Rattle.affine_prog.specs.LevelPaths.{LevelPath}
use Rattle.affine_prog.specs.OpenPaths.{Start, OpenPath}

pub record IsReached (program : Program) (u : ℕ) : Type 0 where
  pub start : List ℕ
  pub state : List ℕ
  pub is_start : Start program start
  pub path : OpenPath program start u state

pub record Holds (program : Program) (u : ℕ) (a : List ℕ) : Type 0 where
  pub row : IsRow 17 a
  pub visible : IsZeroOutside (with_constant (visible_in program (owner_of program u))) a
  pub zero : (start v : List ℕ) → Start program start → OpenPath program start u v → dot a v ≡ 0

pub record Returns (program : Program) (p : ℕ) : Type 0 where
  pub map : List ℕ
  pub path : LevelPath program p (exit_of program p) map

abbrev pub Certified : Program → ℕ → ℕ → Type 0
Certified program p r =
    (m v : List ℕ) → LevelPath program p (exit_of program p) m → IsState v → slice_index (apply m v) r ≡ slice_index v r

-- Open paths: the runs from a start to a node, in which calls may still be open (reaching runs; these are the
-- interprocedurally valid paths). An open path is a list of level paths, each but the last followed by a call that hasn't
-- returned.
--
--   Start program v              v is a start: a state with any words at the registers, and 0 at every other position below 16
--   OpenPath program start u v   an open path to node u whose state from that start is v. Its end and its state stand in its
--                                type: state_after an open path from start is v
--     first                        a level path of the start procedure, whose map is applied to the start
--     enter                        an open path, a call edge from its end, a choice for the assignments before the call, and
--                                  a level path of the callee, whose maps are applied in turn
use Rattle.std.specs.Prelude.{◌≡◌, ℕ, List, Contains}
use Rattle.word_rows.specs.Rows.{IsState}
use Rattle.row_modules.specs.Positions.{with_constant, IsZeroOutside}
use Rattle.map_modules.specs.Matrices.{apply}
use Rattle.affine_prog.specs.declared.Program.{Program}
use Rattle.affine_prog.specs.declared.Kind.TheVariants.{Call}
use Rattle.affine_prog.specs.declared.Assign.{Assign}
use Rattle.affine_prog.specs.Programs.{edge}
use Rattle.affine_prog.specs.Assignments.{Choice, matrix_of}
use Rattle.affine_prog.specs.LevelPaths.{LevelPath}

pub record Start (program : Program) (v : List ℕ) : Type 0 where
  pub state : IsState v
  pub registers : IsZeroOutside (with_constant program.registers) v

pub data OpenPath (program : Program) (start : List ℕ) : ℕ → List ℕ → Type 0 where
  first : (u : ℕ) (m v : List ℕ)
      → LevelPath program program.start u m
      → v ≡ apply m start
      → OpenPath program start u v
  enter : (q u v w : ℕ) (before : List Assign) (words m state after : List ℕ)
      → OpenPath program start u state → Contains program.edges (edge u v (Call q before)) → Choice before words
      → LevelPath program q w m
      → after ≡ apply m (apply (matrix_of before words) state)
      → OpenPath program start w after

-- Level paths: the runs of a procedure within one activation, in which each call is whole (same-level runs). A level path
-- is a finite tree.
--
--   LevelPath program p u m             a level path of procedure p that ends at node u and has the map m. Its end and its
--                                       map stand in its type: end_of a level path is u, and map_of it is m
--     opening                             ends at the entry of p; gives one word to each slot of p
--     step                                a level path, an edge from its end, and a choice for the edge's assignments
--     call                                a level path, a call edge from its end, a choice for the assignments before the
--                                         call, and a level path of the callee to its exit
--   step_map assigns words m            the map m, and then the assignments under the choice
--   call_map registers slots b n m      the map m, then b, and then the callee's map n as a caller with these slots sees it
--
-- This project's own: slots are memory of one activation. It finds any words in them, since nobody has written them for it;
-- the slots of other procedures are 0 in it, since they name nothing there.
--
--   opening_map registers slots words   keeps the registers and the constant, sets each slot i to word i, clears all else
use Rattle.std.specs.Prelude.{◌≡◌, ℕ, ◌<◌, List, length, Contains, slice_index, if◌then◌else◌, ◌==◌, ◌&&◌, ◌||◌}
use Rattle.word_rows.specs.Rows.{IsRow}
use Rattle.row_modules.specs.Positions.{has}
use Rattle.map_modules.specs.Matrices.{matrix, product, extension}
use Rattle.affine_prog.specs.declared.Program.{Program}
use Rattle.affine_prog.specs.declared.Kind.TheVariants.{Do, Call}
use Rattle.affine_prog.specs.declared.Assign.{Assign}
use Rattle.affine_prog.specs.Programs.{edge, entry_of, exit_of, slots_of}
use Rattle.affine_prog.specs.Assignments.{Choice, made, matrix_of}

abbrev pub opening_map : ℕ → ℕ → List ℕ → List ℕ
opening_map registers slots words =
    matrix (λ i j. if has registers i || (i == 16) then (if j == i then 1 else 0) else if has slots i && (j == 16) then slice_index words i else 0)

abbrev pub step_map : List Assign → List ℕ → List ℕ → List ℕ
step_map assigns words m = made 17 assigns words m

abbrev pub call_map : ℕ → ℕ → List ℕ → List ℕ → List ℕ → List ℕ
call_map registers slots before callee caller = product (extension registers slots callee) (product before caller)

pub data LevelPath (program : Program) : ℕ → ℕ → List ℕ → Type 0 where
  opening : (p u : ℕ) (words m : List ℕ)
      → p < length program.procs → u ≡ entry_of program p → IsRow 16 words
      → m ≡ opening_map program.registers (slots_of program p) words
      → LevelPath program p u m
  step : (p u v : ℕ) (assigns : List Assign) (words m n : List ℕ)
      → LevelPath program p u m → Contains program.edges (edge u v (Do assigns)) → Choice assigns words
      → n ≡ step_map assigns words m
      → LevelPath program p v n
  call : (p q u v : ℕ) (before : List Assign) (words m callee n : List ℕ)
      → LevelPath program p u m → Contains program.edges (edge u v (Call q before)) → Choice before words
      → LevelPath program q (exit_of program q) callee
      → n ≡ call_map program.registers (slots_of program p) (matrix_of before words) callee m
      → LevelPath program p v n

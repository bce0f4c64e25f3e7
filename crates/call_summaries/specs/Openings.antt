-- Where the worklist starts.
--
--   AreOpenings registers slots rows   the opening map with 0 in the slots, and for each slot the matrix with 1 in its row and
--                                      the last column
--   HasOpenings program p s            the module at the entry of procedure p has each opening map
--   Opens program n wanted s           so it is with the first n procedures, where these are to be solved
use Rattle.std.specs.Prelude.{◌≡◌, ℕ, ◌<◌, ◌⊎◌, List, Contains, Bool, IsTrue, replicate}
use Rattle.word_rows.specs.Rows.{IsRow}
use Rattle.row_modules.specs.Positions.{has}
use Rattle.affine_prog.specs.declared.Program.{Program}
use Rattle.affine_prog.specs.Programs.{entry_of, slots_of}
use Rattle.affine_prog.specs.LevelPaths.{opening_map}
use Rattle.row_images.specs.Images.{column}
use Rattle.row_engine.specs.States.{State, InModule}
use Rattle.call_summaries.specs.Solutions.{IsWanted}

abbrev pub IsSlotRow : ℕ → ℕ → List ℕ → Type 0
IsSlotRow slots n m = (i : ℕ) × (i < n) × IsTrue (has slots i) × (m ≡ column 17 i 1)

pub record OpeningsFirst (registers slots n : ℕ) (rows : List (List ℕ)) : Type 0 where
  pub zeros : Contains rows (opening_map registers slots (replicate 16 0))
  pub each : (m : List ℕ) → IsSlotRow slots n m → Contains rows m
  pub only : (m : List ℕ) → Contains rows m → (m ≡ opening_map registers slots (replicate 16 0)) ⊎ IsSlotRow slots n m

abbrev pub AreOpenings : ℕ → ℕ → List (List ℕ) → Type 0
AreOpenings registers slots rows = OpeningsFirst registers slots 16 rows

abbrev pub HasOpenings : Program → ℕ → State → Type 0
HasOpenings program p s = (words : List ℕ) → IsRow 16 words → InModule 289 s (entry_of program p) (opening_map program.registers (slots_of program p) words)

abbrev pub Opens : Program → ℕ → List Bool → State → Type 0
Opens program n wanted s = (p : ℕ) → p < n → IsWanted wanted p → HasOpenings program p s

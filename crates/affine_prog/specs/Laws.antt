-- The laws of paths on which the analyses stand. Each holds for all programs, lists, choices, sets and maps.
--
--   zero_choice n                      the choice of 0 for each of n unknowns
--   IsStepOf assigns m n               n is the map of a step after m, under some choice
--   IsAffineInChoices assigns m        the maps of a step after m are the map under zeros plus any multiples of fixed
--                                      differences, one for each unknown; the difference is what 1 for that unknown alone adds
--   StepsAreLinear                     the map of a step, under one choice, is linear in the map before
--   StepsAreAffineInChoices            each step is affine in its choice, where the assigned positions are below 16
--   ChoicesMoveConstants               the matrix of a list depends on its choice in the column of the constant alone, where the
--                                      assigned positions are below 16
--   linear_call_map                    call_map with the linear extension
--   CallsAreBilinear                   where the callee's map is affine, the map of a call is linear_call_map; and that is
--                                      linear in the caller's map with the callee's kept, and linear in the callee's with
--                                      the caller's kept
--   slot_words registers slots words   what the words that the slots are given add to the map of an opening
--   OpeningsAreAffine                  the map of an opening is the map under zeros plus slot_words, which is linear
--   IsOpening registers slots m        m is the map of an opening, under some words for the slots
--   OpeningsAreSpanned                 the openings span what the opening under zeros and one map for each slot span
--   LevelMapsAreAffine                 in a well-formed program the maps of level paths are affine
--   LevelMapsAreOnVisible              they are 0 outside the rows of visible positions and of the constant, and outside the
--                                      columns of registers and of the constant
--   OpenStatesAreStates                in a well-formed program the states of open paths are states
--   OpenStatesAreOnVisible             they are 0 outside the positions that are visible where the path ends
--   EndsInOwner program u v            v is what the map of a level path to u, of the procedure that owns u, makes of some row
--   LevelPathsStay                     in a well-formed program a level path ends at a node that its procedure owns
--   OpenPathsEndInOwner                in a well-formed program an open path ends at a node, with a level path of its owner
--   StartIsReached                     in a well-formed program the entry of the start procedure is reached
--   LevelMapsUseFew, OpenStatesUseFew  in a well-formed program of width k a list of combinations of the maps of level paths to
--                                      a node uses at most (k + 1) * (k + 1) positions, and of states of open paths k + 1
--   StartsAreSpanned                   the starts span what the unit rows of the registers and of the constant span
--   HoldsIsAnnihilation                a relation holds exactly where it annihilates the states, outside the visible positions
--                                      and the constant being 0
use Rattle.std.specs.Prelude.{◌≡◌, ℕ, ◌<◌, ◌↔◌, ◌+◌, ◌*◌, ◌≤◌, List, [], Contains, length, replicate, slice_index, slice_index_or, All, if◌then◌else◌, ◌==◌, ◌&&◌, ◌||◌}
use Rattle.word_rows.specs.Rows.{words_of, plus, unit, IsRow, IsState}
use Rattle.row_modules.specs.Modules.{AreRows, Either, IsWithin, SameModule}
use Rattle.row_modules.specs.Maps.{IsLinear, IsBilinear, Image}
use Rattle.row_modules.specs.Forms.{Annihilates}
use Rattle.row_modules.specs.Bases.{used_positions}
use Rattle.row_modules.specs.Choices.{IsChoice}
use Rattle.row_modules.specs.Positions.{has, with_constant, IsRowOn, IsUnitOn}
use Rattle.map_modules.specs.Matrices.{entry, matrix, product, apply, linear_extension, IsAffine, IsMatrixOn}
use Rattle.affine_prog.specs.declared.Program.{Program}
use Rattle.affine_prog.specs.declared.Assign.{Assign}
use Rattle.affine_prog.specs.Programs.{entry_of, owner_of, visible_in, IsWellFormed}
use Rattle.affine_prog.specs.Assignments.{position_of, unknown_count, IsMadeOf, matrix_of}
use Rattle.affine_prog.specs.LevelPaths.{opening_map, step_map, call_map, LevelPath}
use Rattle.affine_prog.specs.OpenPaths.{Start, OpenPath}
use Rattle.affine_prog.specs.Relations.{IsReached, Holds}
use Rattle.affine_prog.specs.Spans.{IsMapTo, IsStateAt}

abbrev pub zero_choice : ℕ → List ℕ
zero_choice n = replicate n 0

abbrev pub IsStepOf : List Assign → List ℕ → List ℕ → Type 0
IsStepOf assigns m n = IsMadeOf 17 assigns m n

pub record IsAffineInChoices (assigns : List Assign) (m : List ℕ) : Type 0 where
  pub differences : List (List ℕ)
  pub one_each : length differences ≡ unknown_count assigns
  pub rows : All (IsRow 289) differences
  pub choices : (n : List ℕ) → IsStepOf assigns m n ↔ IsChoice (step_map assigns (zero_choice (unknown_count assigns)) m) differences n
  pub units : (k : ℕ) → k < unknown_count assigns
      → step_map assigns (unit (unknown_count assigns) k) m
      ≡ words_of (plus 1 (step_map assigns (zero_choice (unknown_count assigns)) m) (slice_index_or differences k []))

abbrev pub StepsAreLinear : Type 0
StepsAreLinear = (assigns : List Assign) (words : List ℕ) → IsLinear 289 289 (step_map assigns words)

abbrev pub StepsAreAffineInChoices : Type 0
StepsAreAffineInChoices =
    (assigns : List Assign) (m : List ℕ) → All (λ a. position_of a < 16) assigns → IsRow 289 m → IsAffineInChoices assigns m

abbrev pub ChoicesMoveConstants : Type 0
ChoicesMoveConstants =
    (assigns : List Assign) (words others : List ℕ) → All (λ a. position_of a < 16) assigns → (i j : ℕ) → i < 17 → j < 16
    → entry (matrix_of assigns words) i j ≡ entry (matrix_of assigns others) i j

abbrev pub linear_call_map : ℕ → ℕ → List ℕ → List ℕ → List ℕ → List ℕ
linear_call_map registers slots before callee caller = product (linear_extension registers slots callee) (product before caller)

pub record CallsAreBilinear : Type 0 where
  pub same : (registers slots : ℕ) (before callee caller : List ℕ) → IsAffine callee
      → call_map registers slots before callee caller ≡ linear_call_map registers slots before callee caller
  pub bilinear : (registers slots : ℕ) (before : List ℕ) → IsBilinear 289 289 289 (linear_call_map registers slots before)

abbrev pub slot_words : ℕ → ℕ → List ℕ → List ℕ
slot_words registers slots words =
    matrix (λ i j. if has registers i || (i == 16) then 0 else if has slots i && (j == 16) then slice_index words i else 0)

pub record OpeningsAreAffine : Type 0 where
  pub map : (registers slots : ℕ) (words : List ℕ)
      → opening_map registers slots words ≡ words_of (plus 1 (opening_map registers slots (replicate 16 0)) (slot_words registers slots words))
  pub linear : (registers slots : ℕ) → IsLinear 16 289 (slot_words registers slots)

abbrev pub LevelMapsAreAffine : Type 0
LevelMapsAreAffine =
    (program : Program) (p u : ℕ) (m : List ℕ) → IsWellFormed program → LevelPath program p u m → IsRow 289 m × IsAffine m

abbrev pub OpenStatesAreStates : Type 0
OpenStatesAreStates =
    (program : Program) (start : List ℕ) (u : ℕ) (v : List ℕ) → IsWellFormed program → Start program start → OpenPath program start u v → IsState v

abbrev pub LevelPathsStay : Type 0
LevelPathsStay =
    (program : Program) (p u : ℕ) (m : List ℕ) → IsWellFormed program → LevelPath program p u m → (u < program.nodes) × (owner_of program u ≡ p)

abbrev pub StartIsReached : Type 0
StartIsReached = (program : Program) → IsWellFormed program → IsReached program (entry_of program program.start)

abbrev pub IsOpening : ℕ → ℕ → List ℕ → Type 0
IsOpening registers slots m = (words : List ℕ) × IsRow 16 words × (m ≡ opening_map registers slots words)

abbrev pub OpeningsAreSpanned : Type 0
OpeningsAreSpanned =
    (registers slots : ℕ)
    → SameModule 289 (IsOpening registers slots) (Either (λ m. m ≡ opening_map registers slots (replicate 16 0)) (Image (slot_words registers slots) (IsUnitOn 16 slots)))

abbrev pub LevelMapsAreOnVisible : Type 0
LevelMapsAreOnVisible =
    (program : Program) (p u : ℕ) (m : List ℕ) → IsWellFormed program → LevelPath program p u m
    → IsMatrixOn (with_constant (visible_in program p)) (with_constant program.registers) m

abbrev pub OpenStatesAreOnVisible : Type 0
OpenStatesAreOnVisible =
    (program : Program) (start : List ℕ) (u : ℕ) (v : List ℕ) → IsWellFormed program → Start program start → OpenPath program start u v
    → IsRowOn 17 (with_constant (visible_in program (owner_of program u))) v

pub record EndsInOwner (program : Program) (u : ℕ) (v : List ℕ) : Type 0 where
  pub node : u < program.nodes
  pub map : List ℕ
  pub before : List ℕ
  pub path : LevelPath program (owner_of program u) u map
  pub is : v ≡ apply map before

abbrev pub OpenPathsEndInOwner : Type 0
OpenPathsEndInOwner =
    (program : Program) (start : List ℕ) (u : ℕ) (v : List ℕ) → IsWellFormed program → OpenPath program start u v → EndsInOwner program u v

abbrev pub LevelMapsUseFew : Type 0
LevelMapsUseFew =
    (program : Program) (u : ℕ) (rows : List (List ℕ)) → IsWellFormed program → IsWithin 289 (Contains rows) (IsMapTo program u) → AreRows 289 (Contains rows)
    → used_positions 289 rows ≤ (program.width + 1) * (program.width + 1)

abbrev pub OpenStatesUseFew : Type 0
OpenStatesUseFew =
    (program : Program) (u : ℕ) (rows : List (List ℕ)) → IsWellFormed program → IsWithin 17 (Contains rows) (IsStateAt program u) → AreRows 17 (Contains rows)
    → used_positions 17 rows ≤ program.width + 1

abbrev pub StartsAreSpanned : Type 0
StartsAreSpanned = (program : Program) → SameModule 17 (Start program) (IsUnitOn 17 (with_constant program.registers))

abbrev pub HoldsIsAnnihilation : Type 0
HoldsIsAnnihilation =
    (program : Program) (u : ℕ) (a : List ℕ)
    → Holds program u a ↔ Annihilates (with_constant (visible_in program (owner_of program u))) (IsStateAt program u) a

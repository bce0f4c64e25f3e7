-- What the maps of level paths make of states, told of the states alone.
--
--   opened registers slots words s     the registers and the constant stay, the slots are given words, all else is 0
--   returned registers slots s e       what a caller has behind a call: the registers and the constant of the callee's state
--                                      e at its exit, and its own slots from the state s before
--   with_word i row s                  position i becomes row . s
--   changed assigns words s            the assignments one after the other, under the choice
--   MapsAct                            so the maps of openings, of steps and of calls act
use Rattle.std.specs.Prelude.{◌≡◌, ℕ, ◌*◌, List, [], ◌∷◌, drop, slice_index, if◌then◌else◌, ◌==◌, ◌||◌}
use Rattle.word_rows.specs.Rows.{IsRow, IsState}
use Rattle.row_modules.specs.Positions.{has}
use Rattle.map_modules.specs.Matrices.{sum_below, vector, apply}
use Rattle.affine_prog.specs.declared.Assign.{Assign}
use Rattle.affine_prog.specs.declared.Assign.TheVariants.{Affine, Any}
use Rattle.affine_prog.specs.Assignments.{constant, matrix_of}
use Rattle.affine_prog.specs.LevelPaths.{opening_map, step_map, call_map}

abbrev pub opened : ℕ → ℕ → List ℕ → List ℕ → List ℕ
opened registers slots words s =
    vector (λ k. if has registers k || (k == 16) then slice_index s k else if has slots k then slice_index words k else 0)

abbrev pub returned : ℕ → ℕ → List ℕ → List ℕ → List ℕ
returned registers slots s e =
    vector (λ k. if has registers k || (k == 16) then slice_index e k else if has slots k then slice_index s k else 0)

abbrev pub with_word : ℕ → List ℕ → List ℕ → List ℕ
with_word i row s =
    vector (λ k. if k == i then sum_below 17 (λ l. slice_index row l * slice_index s l) else slice_index s k)

abbrev pub changed : List Assign → List ℕ → List ℕ → List ℕ
changed [] words s = s
changed (Affine i row ∷ rest) words s = changed rest words (with_word i row s)
changed (Any i ∷ rest) words s = changed rest (drop 1 words) (with_word i (constant (slice_index words 0)) s)

pub record MapsAct : Type 0 where
  pub opening : (registers slots : ℕ) (words s : List ℕ) → IsState s
      → apply (opening_map registers slots words) s ≡ opened registers slots words s
  pub step : (assigns : List Assign) (words m s : List ℕ) → IsRow 17 (apply m s)
      → apply (step_map assigns words m) s ≡ changed assigns words (apply m s)
  pub call : (registers slots : ℕ) (before : List Assign) (words callee m s : List ℕ) → IsRow 17 (apply m s)
      → apply (call_map registers slots (matrix_of before words) callee m) s
      ≡ returned registers slots (changed before words (apply m s)) (apply callee (changed before words (apply m s)))

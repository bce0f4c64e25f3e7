-- Maps of level paths are 0 outside the rows of visible positions, and the columns of registers; states of open paths are 0
-- outside the visible positions. The constant's position is in each.
use Rattle.std.proofs.Common.{◌≡◌, ℕ, inl, inr, List, [], ◌∷◌, Bool, true, false, All, drop, slice_index, ap, sym, subst, ◌∙◌, ◌==◌, ◌&&◌, ◌||◌, if◌then◌else◌, bit_or}
use Rattle.std.proofs.lemmas.Bool.{cases_eq, and_left, and_right, or_from, ne_eqb}
use Rattle.std.proofs.lemmas.List.Elements.{All-head, All-tail}
use Rattle.word_rows.specs.Words.{word}
use Rattle.row_modules.specs.Positions.{has, with_constant, IsZeroOutside, IsRowOn}
use Rattle.row_modules.proofs.Laws.{has_left, out_left, out_right, out_of_set, not_constant}
use Rattle.map_modules.specs.Matrices.{after_affine, extension, IsMatrixOn}
use Rattle.map_modules.proofs.Lemmas.{entry-matrix, IsRow-matrix, product-identity_first, product_on, after_affine_on, apply_on, extension_rows}
use Rattle.affine_prog.specs.declared.Program.{Program}
use Rattle.affine_prog.specs.declared.Assign.{Assign}
use Rattle.affine_prog.specs.declared.Assign.TheVariants.{Affine, Any}
use Rattle.affine_prog.specs.declared.Kind.TheVariants.{Do, Call}
use Rattle.affine_prog.specs.Programs.{edge, slots_of, owner_of, visible_in, IsAssignIn, IsWellFormed}
use Rattle.affine_prog.specs.Assignments.{constant, matrix_of}
use Rattle.affine_prog.specs.LevelPaths.{opening_map, step_map, call_map, LevelPath, opening, step, call}
use Rattle.affine_prog.specs.OpenPaths.{Start, OpenPath}
use Rattle.affine_prog.proofs.Steps.{step_map-cons}
use Rattle.affine_prog.proofs.Paths.{edge_at, open_state}
use Rattle.affine_prog.proofs.Ends.{end_of_level_path, open_path_ends}

neither : (a b : Bool) (x y : ℕ) → a ≡ false → b ≡ false → (if a then x else if b then y else 0) ≡ 0
neither a b x y e f = ap (λ c. if c then x else if b then y else 0) e ∙ ap (λ c. if c then y else 0) f

both_zero : (a b : Bool) (x y : ℕ) → x ≡ 0 → b ≡ false → (if a then x else if b then y else 0) ≡ 0
both_zero true b x y e f = e
both_zero false b x y e f = ap (λ c. if c then y else 0) f

pub opening_on : (registers slots : ℕ) (words : List ℕ) → IsMatrixOn (with_constant (bit_or registers slots)) (with_constant registers) (opening_map registers slots words)
opening_on registers slots words = record {
  row = IsRow-matrix _;
  in_rows = λ i j below column out.
      let o = out_of_set (bit_or registers slots) i out in
      entry-matrix _ i j below column
      ∙ ap word (neither (has registers i || (i == 16)) (has slots i && (j == 16)) (if j == i then 1 else 0) (slice_index words i)
      (or_from _ _ (out_left registers slots i o) (ne_eqb i 16 (not_constant _ i out))) (and_left _ _ (out_right registers slots i o)));
  in_columns = λ i j below column out.
      entry-matrix _ i j below column ∙ ap word (at_column i j (out_of_set registers j out) (not_constant registers j out));
} where
  at_column : (i j : ℕ) → has registers j ≡ false → (j ≡ 16 → ⊥)
      → (if has registers i || (i == 16) then (if j == i then 1 else 0) else if has slots i && (j == 16) then slice_index words i else 0) ≡ 0
  at_column i j out ne =
      let last = and_right (has slots i) (j == 16) (ne_eqb j 16 ne) in
      elim (cases_eq j i) [
        | inl e ↦ neither (has registers i || (i == 16)) (has slots i && (j == 16)) (if j == i then 1 else 0) (slice_index words i) (or_from _ _ (rw e at out) (ne_eqb i 16 (rw e at ne))) last
        | inr other ↦ both_zero (has registers i || (i == 16)) (has slots i && (j == 16)) (if j == i then 1 else 0) (slice_index words i) (ap (λ b. if b then 1 else 0) (ne_eqb j i other)) last
      ]

module _ (s columns : ℕ) where
  pub step_on : (assigns : List Assign) (words m : List ℕ) → All (IsAssignIn s) assigns → IsMatrixOn (with_constant s) columns m → IsMatrixOn (with_constant s) columns (step_map assigns words m)
  step_on [] words m placed p = rw (product-identity_first m p.row) p
  step_on (Affine i row ∷ rest) words m placed p =
      rw (step_map-cons m row (matrix_of rest words) i)
      (step_on rest words (after_affine m i row) (All-tail (IsAssignIn s) (Affine i row) rest placed)
      (after_affine_on (with_constant s) columns m row i (has_left s _ i (All-head (IsAssignIn s) (Affine i row) rest placed).0) p))
  step_on (Any i ∷ rest) words m placed p =
      let c = constant (slice_index words 0) in
      rw (step_map-cons m c (matrix_of rest (drop 1 words)) i)
      (step_on rest (drop 1 words) (after_affine m i c) (All-tail (IsAssignIn s) (Any i) rest placed)
      (after_affine_on (with_constant s) columns m c i (has_left s _ i (All-head (IsAssignIn s) (Any i) rest placed)) p))

pub call_on : (registers slots columns : ℕ) (before : List Assign) (words callee m : List ℕ) → All (IsAssignIn (bit_or registers slots)) before
    → IsMatrixOn (with_constant (bit_or registers slots)) columns m → IsMatrixOn (with_constant (bit_or registers slots)) columns (call_map registers slots (matrix_of before words) callee m)
call_on registers slots columns before words callee m placed p =
    product_on (with_constant (bit_or registers slots)) columns (extension registers slots callee) (step_map before words m)
    (λ i j below column out.
    let o = out_of_set (bit_or registers slots) i out in
    extension_rows 1 registers slots callee i j below column (out_left registers slots i o) (not_constant _ i out) (out_right registers slots i o))
    (step_on (bit_or registers slots) columns before words m placed p).in_columns

module _ (program : Program) (w : IsWellFormed program) where
  abbrev AreOn : ℕ → List ℕ → Type 0
  AreOn p m = IsMatrixOn (with_constant (visible_in program p)) (with_constant program.registers) m

  pub level_map_on : (p u : ℕ) (m : List ℕ) → LevelPath program p u m → AreOn p m
  level_map_on p u m (opening p' u' words m' within at row is) = rw is (opening_on program.registers (slots_of program p) words)
  level_map_on p v n (step p' u v' assigns words m n' path contains choice is) =
      let owned = (end_of_level_path program w p u m path).1 in
      let kind = subst (λ q. All (IsAssignIn (visible_in program q)) assigns) owned (edge_at program w (edge u v (Do assigns)) contains) in
      rw is (step_on (visible_in program p) (with_constant program.registers) assigns words m kind (level_map_on p u m path))
  level_map_on p v n (call p' q u v' before words m callee n' path contains choice called is) =
      let owned = (end_of_level_path program w p u m path).1 in
      let kind = subst (λ x. All (IsAssignIn (visible_in program x)) before) owned (edge_at program w (edge u v (Call q before)) contains).1 in
      rw is (call_on program.registers (slots_of program p) (with_constant program.registers) before words callee m kind (level_map_on p u m path))

  pub open_state_on : (start : List ℕ) → Start program start → (u : ℕ) (v : List ℕ) → OpenPath program start u v → IsRowOn 17 (with_constant (visible_in program (owner_of program u))) v
  open_state_on start s u v path =
      let e = open_path_ends program w start u v path in
      let zeros = apply_on _ _ e.map e.before (level_map_on (owner_of program u) u e.map e.path) in
      record { row = (open_state program w start s u v path).row; hidden = subst (IsZeroOutside (with_constant (visible_in program (owner_of program u)))) (sym e.is) zeros }

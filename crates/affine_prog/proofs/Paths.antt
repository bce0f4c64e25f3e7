-- Paths of a well-formed program: level paths have affine maps, and open paths end in states.
use Rattle.std.proofs.Common.{◌≡◌, ℕ, zero, suc, ◌<◌, ◌^◌, List, [], ◌∷◌, drop, slice_index, All, Contains, IsTrue, refl, ap, sym, ◌∙◌, arith, if◌then◌else◌, ◌==◌, ◌&&◌, inl, inr, lit<}
use Rattle.std.proofs.Math.Nat.{pow-le-pow_right}
use Rattle.std.proofs.lemmas.Bool.{false≢true, cases_lt}
use Rattle.std.proofs.lemmas.Nat.{or_lt, pow_pos}
use Rattle.std.proofs.lemmas.List.Elements.{All-head, All-tail, All-contains, All-weaker}
use Rattle.word_rows.specs.Words.{word}
use Rattle.word_rows.specs.Rows.{IsRow, IsState}
use Rattle.row_modules.specs.Positions.{has}
use Rattle.map_modules.specs.Matrices.{matrix, identity, product, apply, extension, IsAffine}
use Rattle.map_modules.proofs.Conditions.{or_true}
use Rattle.map_modules.proofs.Entries.{IsRow-matrix}
use Rattle.map_modules.proofs.Affine.{affine_from_row, IsAffine-identity, IsAffine-product, IsAffine-after_affine, IsAffine-extension, IsState-apply}
use Rattle.affine_prog.specs.declared.Program.{Program}
use Rattle.affine_prog.specs.declared.Edge.{Edge}
use Rattle.affine_prog.specs.declared.Assign.{Assign}
use Rattle.affine_prog.specs.declared.Assign.TheVariants.{Affine, Any}
use Rattle.affine_prog.specs.declared.Kind.TheVariants.{Do, Call}
use Rattle.affine_prog.specs.Programs.{edge, exit_of, slots_of, owner_of, visible_in, position_sets, IsAssignIn, IsKindIn, IsEdgeOf, IsWellFormed}
use Rattle.affine_prog.specs.Assignments.{position_of, constant, assignment, matrix_of}
use Rattle.affine_prog.specs.LevelPaths.{opening_map, LevelPath, opening, step, call}
use Rattle.affine_prog.specs.OpenPaths.{Start, OpenPath, first, enter}
use Rattle.row_modules.proofs.Laws.{has_beyond}

-- the positions that an edge of a well-formed program assigns are below 16
small_at : (n : ℕ) (xs : List ℕ) (i : ℕ) → 0 < n → All (λ s. s < n) xs → slice_index xs i < n
small_at n [] i some all = some
small_at n (x ∷ xs) zero some all = All-head (λ s. s < n) x xs all
small_at n (x ∷ xs) (suc i) some all = small_at n xs i some (All-tail (λ s. s < n) x xs all)

module _ (program : Program) (w : IsWellFormed program) where
  pub registers_below : program.registers < 2 ^ program.width
  registers_below = small_at (2 ^ program.width) (position_sets program) 0 (pow_pos program.width) w.below_width

  pub visible_below : (p : ℕ) → visible_in program p < 2 ^ program.width
  visible_below p =
      or_lt program.width program.registers (slots_of program p) registers_below
      (small_at (2 ^ program.width) (position_sets program) (suc p) (pow_pos program.width) w.below_width)

  visible_small : (p : ℕ) → visible_in program p < 2 ^ 16
  visible_small p = let h = pow-le-pow_right {n = 2} (lit< tt) w.width in let b = visible_below p in omega arith

  member_below : (s i : ℕ) → s < 2 ^ 16 → IsTrue (has s i) → i < 16
  member_below s i small member = elim (cases_lt i 16) [ inl h ↦ h | inr h ↦ absurd (false≢true (sym (has_beyond 16 s i small h) ∙ member)) ]

  placed_in : (s : ℕ) → s < 2 ^ 16 → (a : Assign) → IsAssignIn s a → position_of a < 16
  placed_in s small (Affine i row) h = member_below s i small h.0
  placed_in s small (Any i) h = member_below s i small h

  -- what an edge of the program makes
  pub edge_at : (e : Edge) → Contains program.edges e → IsKindIn program (owner_of program e.from) e.kind
  edge_at e contains = let h = All-contains (IsEdgeOf program) program.edges e w.edges contains in h.kind

  pub step_placed : (u v : ℕ) (assigns : List Assign) → Contains program.edges (edge u v (Do assigns)) → All (λ a. position_of a < 16) assigns
  step_placed u v assigns contains =
      All-weaker (IsAssignIn (visible_in program (owner_of program u))) (λ a. position_of a < 16) (placed_in _ (visible_small (owner_of program u))) assigns
      (edge_at (edge u v (Do assigns)) contains)

  pub call_placed : (u v q : ℕ) (before : List Assign) → Contains program.edges (edge u v (Call q before)) → All (λ a. position_of a < 16) before
  call_placed u v q before contains =
      All-weaker (IsAssignIn (visible_in program (owner_of program u))) (λ a. position_of a < 16) (placed_in _ (visible_small (owner_of program u))) before
      (edge_at (edge u v (Call q before)) contains).1

-- lists that assign positions below 16 have affine matrices
pub IsAffine-matrix_of : (assigns : List Assign) (words : List ℕ) → All (λ a. position_of a < 16) assigns → IsAffine (matrix_of assigns words)
IsAffine-matrix_of [] words placed = IsAffine-identity 16
IsAffine-matrix_of (Affine i row ∷ rest) words placed =
    IsAffine-product (matrix_of rest words) (assignment i row) (IsAffine-matrix_of rest words (All-tail (λ a. position_of a < 16) (Affine i row) rest placed))
    (IsAffine-after_affine (identity 16) row i (All-head (λ a. position_of a < 16) (Affine i row) rest placed) (IsAffine-identity 16))
IsAffine-matrix_of (Any i ∷ rest) words placed =
    IsAffine-product (matrix_of rest (drop 1 words)) (assignment i (constant (slice_index words 0)))
    (IsAffine-matrix_of rest (drop 1 words) (All-tail (λ a. position_of a < 16) (Any i) rest placed))
    (IsAffine-after_affine (identity 16) (constant (slice_index words 0)) i (All-head (λ a. position_of a < 16) (Any i) rest placed) (IsAffine-identity 16))

pub IsAffine-opening_map : (registers slots : ℕ) (words : List ℕ) → IsAffine (opening_map registers slots words)
IsAffine-opening_map registers slots words =
    affine_from_row _ (λ j column. ap (λ b. word (if b then (if j == 16 then 1 else 0) else if has slots 16 && (j == 16) then slice_index words 16 else 0))
    (or_true (has registers 16) (16 == 16) refl))

map_from : (f : ℕ → ℕ → ℕ) (m : List ℕ) → m ≡ matrix f → IsAffine (matrix f) → IsRow 289 m × IsAffine m
map_from f m is affine = rw is (IsRow-matrix f, affine)

pub level_map : (program : Program) (w : IsWellFormed program) (p u : ℕ) (m : List ℕ) → LevelPath program p u m → IsRow 289 m × IsAffine m
level_map program w p u m (opening p' u' words m' within at row is) =
    map_from _ m is (IsAffine-opening_map program.registers (slots_of program p) words)
level_map program w p v n (step p' u v' assigns words m n' path contains choice is) =
    map_from _ n is (IsAffine-product (matrix_of assigns words) m (IsAffine-matrix_of assigns words (step_placed program w u v assigns contains)) (level_map program w p u m path).1)
level_map program w p v n (call p' q u v' before words m callee n' path contains choice called is) =
    map_from _ n is (IsAffine-product (extension program.registers (slots_of program p) callee) (product (matrix_of before words) m)
    (IsAffine-extension program.registers (slots_of program p) callee (level_map program w q (exit_of program q) callee called).1)
    (IsAffine-product (matrix_of before words) m (IsAffine-matrix_of before words (call_placed program w u v q before contains)) (level_map program w p u m path).1))

pub open_state : (program : Program) (w : IsWellFormed program) (start : List ℕ) → Start program start → (u : ℕ) (v : List ℕ) → OpenPath program start u v → IsState v
open_state program w start s u v (first u' m v' path is) =
    rw is (IsState-apply m start (level_map program w program.start u m path).1 s.state)
open_state program w start s w' v (enter q u v' w'' before words m state after path contains choice called is) =
    rw is (IsState-apply m (apply (matrix_of before words) state) (level_map program w q w' m called).1
    (IsState-apply (matrix_of before words) state (IsAffine-matrix_of before words (call_placed program w u v' q before contains)) (open_state program w start s u state path)))

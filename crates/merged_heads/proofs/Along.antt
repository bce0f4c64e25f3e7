-- Level paths and open paths of the block program, and then a chain.
use Rattle.std.proofs.Common.{◌≡◌, ℕ, List, [], ◌++◌, Contains, ap, sym, ◌∙◌}
use Rattle.word_rows.specs.Rows.{IsRow}
use Rattle.word_rows.proofs.Laws.{IsRow-zeros}
use Rattle.map_modules.specs.Matrices.{product, apply, extension}
use Rattle.map_modules.proofs.Entries.{IsRow-matrix, IsRow-vector}
use Rattle.map_modules.proofs.Products.{product-product, product-identity_first, apply-product, apply-identity}
use Rattle.affine_prog.specs.declared.Program.{Program}
use Rattle.affine_prog.specs.declared.Assign.{Assign}
use Rattle.affine_prog.specs.declared.Kind.TheVariants.{Do, Call}
use Rattle.affine_prog.specs.Programs.{edge, exit_of, slots_of}
use Rattle.affine_prog.specs.Assignments.{Choice, matrix_of}
use Rattle.affine_prog.specs.LevelPaths.{step_map, call_map, LevelPath, opening, step, call}
use Rattle.affine_prog.specs.OpenPaths.{OpenPath, first, enter}
use Rattle.merged_heads.specs.Laws.{IsLevelAlong, IsOpenAlong}
use Rattle.affine_prog.proofs.Lemmas.{matrix_of-append, Choice-append}

-- the maps of level paths are matrices, and the states of open paths are rows, whatever the program
pub level_row : (program : Program) (p u : ℕ) (m : List ℕ) → LevelPath program p u m → IsRow 289 m
level_row program p u m (opening p' u' words m' within at row is) = rw is (IsRow-matrix _)
level_row program p v n (step p' u v' assigns words m n' path contains choice is) = rw is (IsRow-matrix _)
level_row program p v n (call p' q u v' before words m callee n' path contains choice called is) = rw is (IsRow-matrix _)

pub open_row : (program : Program) (start : List ℕ) (u : ℕ) (v : List ℕ) → OpenPath program start u v → IsRow 17 v
open_row program start u v (first u' m v' path is) = rw is (IsRow-vector _)
open_row program start w v (enter q u v' w' before words m state after path contains choice called is) = rw is (IsRow-vector _)

-- steps one after the other
pub step_map-append : (xs ys : List Assign) (v w m : List ℕ) → Choice xs v → step_map (xs ++ ys) (v ++ w) m ≡ step_map ys w (step_map xs v m)
step_map-append xs ys v w m c = ap (λ b. product b m) (matrix_of-append xs ys v w c.width) ∙ sym (product-product (matrix_of ys w) (matrix_of xs v) m)

pub no_choice : Choice [] []
no_choice = IsRow-zeros 0

module _ (small : Program) (p i : ℕ) where
  pub along_nothing : (m : List ℕ) → LevelPath small p i m → IsLevelAlong small p i [] m
  along_nothing m path = record { words = []; first = m; choice = no_choice; path = path; map = sym (product-identity_first m (level_row small p i m path)) }

  pub nothing_along : (m : List ℕ) → IsLevelAlong small p i [] m → LevelPath small p i m
  nothing_along m a =
      let same : m ≡ a.first = a.map ∙ product-identity_first a.first (level_row small p i a.first a.path) in
      rw same a.path

  pub along_more : (chain assigns : List Assign) (words m n : List ℕ) → IsLevelAlong small p i chain m → Choice assigns words → n ≡ step_map assigns words m
      → IsLevelAlong small p i (chain ++ assigns) n
  along_more chain assigns words m n a choice is = record {
    words = a.words ++ words;
    first = a.first;
    choice = Choice-append chain assigns a.words words a.choice choice;
    path = a.path;
    map = is ∙ ap (step_map assigns words) a.map ∙ sym (step_map-append chain assigns a.words words a.first a.choice);
  }

  pub step_along : (j : ℕ) (chain : List Assign) (n : List ℕ) → IsLevelAlong small p i chain n → Contains small.edges (edge i j (Do chain)) → LevelPath small p j n
  step_along j chain n a contains = step p i j chain a.words a.first n a.path contains a.choice a.map

  pub call_along : (q j : ℕ) (chain before : List Assign) (words m callee n : List ℕ) → IsLevelAlong small p i chain m → Contains small.edges (edge i j (Call q (chain ++ before)))
      → Choice before words → LevelPath small q (exit_of small q) callee → n ≡ call_map small.registers (slots_of small p) (matrix_of before words) callee m
      → LevelPath small p j n
  call_along q j chain before words m callee n a contains choice called is =
      call p q i j (chain ++ before) (a.words ++ words) a.first callee n a.path contains (Choice-append chain before a.words words a.choice choice) called
      (is ∙ ap (product (extension small.registers (slots_of small p) callee))
      (ap (step_map before words) a.map ∙ sym (step_map-append chain before a.words words a.first a.choice)))

-- the same for open paths
module _ (small : Program) (start : List ℕ) (i : ℕ) where
  pub open_along_nothing : (v : List ℕ) → OpenPath small start i v → IsOpenAlong small start i [] v
  open_along_nothing v path = record { words = []; first = v; choice = no_choice; path = path; state = sym (apply-identity v (open_row small start i v path)) }

  pub nothing_open_along : (v : List ℕ) → IsOpenAlong small start i [] v → OpenPath small start i v
  nothing_open_along v a =
      let same : v ≡ a.first = a.state ∙ apply-identity a.first (open_row small start i a.first a.path) in
      rw same a.path

-- what a path makes of a state, where it is made along a chain
pub open_from : (small : Program) (start : List ℕ) (i : ℕ) (chain : List Assign) (m before after : List ℕ) {p : ℕ} → IsLevelAlong small p i chain m
    → ((m' : List ℕ) → LevelPath small p i m' → OpenPath small start i (apply m' before)) → after ≡ apply m before → IsOpenAlong small start i chain after
open_from small start i chain m before after {p} a goes is = record {
  words = a.words;
  first = apply a.first before;
  choice = a.choice;
  path = goes a.first a.path;
  state = is ∙ ap (λ n. apply n before) a.map ∙ apply-product (matrix_of chain a.words) a.first before;
}

-- the state before a call, behind a chain
pub open_map-append : (chain before : List Assign) (v w state base : List ℕ) → Choice chain v → state ≡ apply (matrix_of chain v) base
    → apply (matrix_of before w) state ≡ apply (matrix_of (chain ++ before) (v ++ w)) base
open_map-append chain before v w state base c is =
    ap (apply (matrix_of before w)) is ∙ sym (apply-product (matrix_of before w) (matrix_of chain v) base)
    ∙ ap (λ n. apply n base) (sym (matrix_of-append chain before v w c.width))

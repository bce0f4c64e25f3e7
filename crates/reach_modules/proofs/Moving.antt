-- Open paths are made of moves: an open path and a move are one, and what has the first states and is closed under moves has
-- the states of all open paths.
use Rattle.std.proofs.Common.{◌≡◌, inl, inr, ℕ, List, Contains, refl, ap, sym, subst, ◌∙◌}
use Rattle.std.proofs.lemmas.List.Elements.{All-contains}
use Rattle.word_rows.specs.Rows.{IsRow}
use Rattle.map_modules.specs.Matrices.{product, apply, extension}
use Rattle.map_modules.proofs.Lemmas.{product-product, apply-product}
use Rattle.affine_prog.specs.declared.Program.{Program}
use Rattle.affine_prog.specs.declared.Kind.{Kind}
use Rattle.affine_prog.specs.declared.Kind.TheVariants.{Do, Call}
use Rattle.affine_prog.specs.Programs.{edge, entry_of, slots_of, owner_of, IsEdgeOf, IsWellFormed}
use Rattle.affine_prog.specs.Assignments.{matrix_of}
use Rattle.affine_prog.specs.LevelPaths.{opening_map, LevelPath, opening, step, call}
use Rattle.affine_prog.specs.OpenPaths.{Start, OpenPath, first, enter}
use Rattle.affine_prog.specs.Spans.{IsStateAt}
use Rattle.affine_prog.proofs.Lemmas.{end_of_level_path}
use Rattle.reach_modules.specs.Moves.{KindMap, Moves, IsFirst}

-- the last level path of an open path, and what it begins from
record Last (program : Program) (start : List ℕ) (u : ℕ) (s : List ℕ) : Type 0 where
  proc : ℕ
  begun : List ℕ
  map : List ℕ
  path : LevelPath program proc u map
  is : s ≡ apply map begun
  again : (v : ℕ) (n : List ℕ) → LevelPath program proc v n → OpenPath program start v (apply n begun)

last_of : (program : Program) (start : List ℕ) (u : ℕ) (s : List ℕ) → OpenPath program start u s → Last program start u s
last_of program start u s (first u' m s' path is) = record {
  proc = program.start;
  begun = start;
  map = m;
  path = path;
  is = is;
  again = λ v n other. first v n (apply n start) other refl;
}
last_of program start w s (enter q u v w' before words m state s' path contains choice level is) = record {
  proc = q;
  begun = apply (matrix_of before words) state;
  map = m;
  path = level;
  is = is;
  again = λ x n other. enter q u v x before words n state (apply n (apply (matrix_of before words) state)) path contains choice other refl;
}

module _ (program : Program) (formed : IsWellFormed program) where
  module _ (start : List ℕ) (u to : ℕ) (s : List ℕ) (path : OpenPath program start u s) where
    abbrev last : Last program start u s
    last = last_of program start u s path

    kind_moved : (kind : Kind) (v : ℕ) (m : List ℕ) → Contains program.edges (edge u to kind) → KindMap program u to kind v m → OpenPath program start v (apply m s)
    kind_moved (Do assigns) v m contains (at, (words, choice, is)) =
        let n : List ℕ = product m last.map in
        let made : OpenPath program start to (apply n last.begun) = last.again to n (step last.proc u to assigns words last.map n last.path contains choice (ap (λ x. product x last.map) is)) in
        let e : apply m s ≡ apply n last.begun = ap (apply m) last.is ∙ sym (apply-product m last.map last.begun) in
        rw (at, e) made
    kind_moved (Call q before) v m contains (inl (at, (a, b, (callee, called, a_is), (words, choice, b_is), is))) =
        let own : owner_of program u ≡ last.proc = (end_of_level_path program formed last.proc u last.map last.path).1 in
        let n : List ℕ = product a (product b last.map) in
        let same : n ≡ product (extension program.registers (slots_of program last.proc) callee) (product (matrix_of before words) last.map) =
        ap (λ x. product x (product b last.map)) (a_is ∙ ap (λ p. extension program.registers (slots_of program p) callee) own)
        ∙ ap (λ x. product (extension program.registers (slots_of program last.proc) callee) (product x last.map)) b_is in
        let made : OpenPath program start to (apply n last.begun) = last.again to n (call last.proc q u to before words last.map callee n last.path contains choice called same) in
        let e : apply m s ≡ apply n last.begun =
        ap (apply m) last.is ∙ sym (apply-product m last.map last.begun) ∙ ap (λ x. apply (product x last.map) last.begun) is
        ∙ ap (λ x. apply x last.begun) (sym (product-product a b last.map)) in
        rw (at, e) made
    kind_moved (Call q before) v m contains (inr (at, (a, b, (slots, row, a_is), (words, choice, b_is), is))) =
        let edge_is : IsEdgeOf program (edge u to (Call q before)) = All-contains (IsEdgeOf program) program.edges (edge u to (Call q before)) formed.edges contains in
        let e : apply m s ≡ apply a (apply (matrix_of before words) s) = ap (λ x. apply x s) is ∙ apply-product a b s ∙ ap (λ x. apply a (apply x s)) b_is in
        enter q u to v before words a s (apply m s) path contains choice (opening q v slots a edge_is.kind.0 at row a_is) e

  -- an open path and a move
  pub state_moved : (u v : ℕ) (s m : List ℕ) → IsStateAt program u s → Moves program u v m → IsStateAt program v (apply m s)
  state_moved u v s m state move = record {
    start = state.start;
    is_start = state.is_start;
    path = kind_moved state.start u move.along.to s state.path move.along.kind v m
        (subst (λ w. Contains program.edges (edge w move.along.to move.along.kind)) move.from_u move.in_edges)
        (subst (λ w. KindMap program w move.along.to move.along.kind v m) move.from_u move.map);
  }

  pub first_state : (s : List ℕ) → IsFirst program s → IsStateAt program (entry_of program program.start) s
  first_state s f =
      let words = f.member_left in record {
        start = f.right;
        is_start = f.member_right;
        path = first (entry_of program program.start) f.left s (opening program.start (entry_of program program.start) words.0 f.left formed.start refl words.1 words.2) f.is;
      }

  -- a family of sets with the first states, closed under moves
  module _ (S : ℕ → List ℕ → Type 0) (firsts : (s : List ℕ) → IsFirst program s → S (entry_of program program.start) s)
      (closed : (u v : ℕ) (s m : List ℕ) → S u s → Moves program u v m → S v (apply m s)) where
    level_in : (p u : ℕ) (m x : List ℕ) → ((words : List ℕ) → IsRow 16 words → S (entry_of program p) (apply (opening_map program.registers (slots_of program p) words) x))
        → LevelPath program p u m → S u (apply m x)
    level_in p u m x opens (opening p' u' words m' within at row is) = rw (is, at) (opens words row)
    level_in p v n x opens (step p' u v' assigns words m n' path contains choice is) =
        let b = matrix_of assigns words in
        rw (ap (λ y. apply y x) is ∙ apply-product b m x)
        (closed u v (apply m x) b (level_in p u m x opens path) (record { along = edge u v (Do assigns); in_edges = contains; from_u = refl; map = (refl, (words, choice, refl)) }))
    level_in p v n x opens (call p' q u v' before words m callee n' path contains choice called is) =
        let b = matrix_of before words in let a = extension program.registers (slots_of program (owner_of program u)) callee in
        let own : owner_of program u ≡ p = (end_of_level_path program formed p u m path).1 in
        let e : n ≡ product (product a b) m = is ∙ ap (λ k. product (extension program.registers (slots_of program k) callee) (product b m)) (sym own) ∙ product-product a b m in
        rw (ap (λ y. apply y x) e ∙ apply-product (product a b) m x)
        (closed u v (apply m x) (product a b) (level_in p u m x opens path) (record { along = edge u v (Call q before); in_edges = contains; from_u = refl; map = inl (refl, (a, b, (callee, called, refl), (words, choice, refl), refl)) }))

    open_in : (start : List ℕ) → Start program start → (u : ℕ) (s : List ℕ) → OpenPath program start u s → S u s
    open_in start is_start u s (first u' m s' path is) =
        rw is (level_in program.start u m start
        (λ words row. let a = opening_map program.registers (slots_of program program.start) words in
        firsts (apply a start) (record { left = a; right = start; member_left = (words, row, refl); member_right = is_start; is = refl })) path)
    open_in start is_start w s (enter q u v w' before words m state s' path contains choice level is) =
        let b = matrix_of before words in
        rw is (level_in q w m (apply b state)
        (λ slots row. let a = opening_map program.registers (slots_of program q) slots in
        rw (← apply-product a b state) (closed u (entry_of program q) state (product a b) (open_in start is_start u state path)
        (record { along = edge u v (Call q before); in_edges = contains; from_u = refl; map = inr (refl, (a, b, (slots, row, refl), (words, choice, refl), refl)) }))) level)

    pub states_in : (u : ℕ) (s : List ℕ) → IsStateAt program u s → S u s
    states_in u s state = open_in state.start state.is_start u s state.path

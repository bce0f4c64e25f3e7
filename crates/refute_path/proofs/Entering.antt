-- Entries are states of open paths that call, and closed ones span them all.
use Rattle.std.proofs.Common.{◌≡◌, ℕ, zero, suc, ◌<◌, ◌+◌, List, [], ◌∷◌, Some, Contains, slice_get, refl, ap, sym, subst, arith}
use Rattle.word_rows.specs.Rows.{IsRow}
use Rattle.row_modules.specs.Modules.{AreRows, IsCombination, IsModule}
use Rattle.row_modules.specs.Maps.{Products}
use Rattle.row_modules.proofs.Laws.{combinations, generator, mapped_into, module_least, products_span}
use Rattle.map_modules.specs.Matrices.{identity, apply}
use Rattle.map_modules.proofs.Lemmas.{IsRow-matrix, IsRow-vector, apply_is_bilinear, product-identity_second}
use Rattle.affine_prog.specs.declared.Program.{Program}
use Rattle.affine_prog.specs.declared.Assign.{Assign}
use Rattle.affine_prog.specs.declared.Assign.TheVariants.{Affine, Any}
use Rattle.affine_prog.specs.declared.Kind.TheVariants.{Call}
use Rattle.affine_prog.specs.Programs.{edge, owner_of, IsWellFormed}
use Rattle.affine_prog.specs.Assignments.{unknown_count, Choice, matrix_of}
use Rattle.affine_prog.specs.LevelPaths.{step_map, LevelPath}
use Rattle.affine_prog.specs.OpenPaths.{Start, OpenPath, first, enter}
use Rattle.affine_prog.proofs.Lemmas.{call_placed, end_of_level_path}
use Rattle.refute_path.specs.declared.Placed.{Placed}
use Rattle.refute_path.specs.declared.Came.{Came}
use Rattle.refute_path.specs.declared.Came.TheVariants.{Start as StartTag, Enter as EnterTag}
use Rattle.refute_path.specs.declared.Entry.{Entry}
use Rattle.refute_path.specs.Tags.{words_by, AreMade, At, Spanned, IsClosed}
use Rattle.refute_path.specs.Entries.{entered, IsCameBy, AreCame, Enters, SpannedAt, IsClosedOver}
use Rattle.refute_path.specs.Laws.{IsOpenState}
use Rattle.refute_path.proofs.Found.{got_in, in_got}
use Rattle.refute_path.proofs.Simple.{IsRow-words_by, IsSimpleStep, IsSimpleStart, simple_steps_are_rows, step_is_spanned, start_is_row, start_is_spanned, start_by_is_start}
use Rattle.refute_path.proofs.Tagged.{item_is_path, at_is_path, at_are_rows}
use Rattle.refute_path.proofs.Spanning.{path_is_spanned}

-- a state with which an open path from a start enters a procedure
pub data EntersAs (program : Program) (begin : List ℕ) : ℕ → List ℕ → Type 0 where
  begins : (p : ℕ) (s : List ℕ) → p ≡ program.start → s ≡ begin → EntersAs program begin p s
  calls : (q u v : ℕ) (assigns : List Assign) (words state s : List ℕ) → OpenPath program begin u state → Contains program.edges (edge u v (Call q assigns)) → Choice assigns words
      → s ≡ apply (matrix_of assigns words) state → EntersAs program begin q s

pub record IsEntered (program : Program) (p : ℕ) (s : List ℕ) : Type 0 where
  pub begin : List ℕ
  pub is_start : Start program begin
  pub enters : EntersAs program begin p s

pub go_on : (program : Program) (begin : List ℕ) (p u : ℕ) (m s : List ℕ) → EntersAs program begin p s → LevelPath program p u m → OpenPath program begin u (apply m s)
go_on program begin p u m s (begins p' s' at is) path =
    first u m (apply m s) (subst (λ q. LevelPath program q u m) at path) (ap (apply m) is)
go_on program begin q w m s (calls q' u v assigns words state s' open_path contains choice is) path =
    enter q u v w assigns words m state (apply m s) open_path contains choice path (ap (apply m) is)

-- a step after the identity is the matrix of its assignments
pub identity_step : (assigns : List Assign) (words : List ℕ) → step_map assigns words (identity 16) ≡ matrix_of assigns words
identity_step assigns words = product-identity_second (matrix_of assigns words) (is_matrix assigns words)
  where
    is_matrix : (assigns : List Assign) (words : List ℕ) → IsRow 289 (matrix_of assigns words)
    is_matrix [] words = IsRow-matrix _
    is_matrix (Affine i row ∷ rest) words = IsRow-matrix _
    is_matrix (Any i ∷ rest) words = IsRow-matrix _

module _ (program : Program) (items : List Placed) (entries : List Entry) (formed : IsWellFormed program) (are : AreMade program items) (came_are : AreCame program items entries) where
  abbrev Earlier : ℕ → Type 0
  Earlier k = (j p : ℕ) (s : List ℕ) (came : Came) → j < k → slice_get entries j ≡ Some (entered p s came) → IsEntered program p s

  entered_by : (k p : ℕ) (s : List ℕ) (came : Came) → IsCameBy program items entries k came p s → Earlier k → IsEntered program p s
  entered_by k p s (StartTag raised) is earlier = record { begin = s; is_start = start_by_is_start program formed raised s is.is; enters = begins p s is.there refl }
  entered_by k q s (EnterTag outer level e raised) is earlier =
      let before = earlier outer is.proc is.state is.came is.earlier is.is_outer in
      let path = subst (λ p. LevelPath program p is.node is.own) is.owned (item_is_path program items formed are level is.node is.own is.made is.is_level) in
      record {
        begin = before.begin;
        is_start = before.is_start;
        enters = calls q is.node is.to is.assigns (words_by (unknown_count is.assigns) raised) (apply is.own is.state) s
            (go_on program before.begin is.proc is.node is.own is.state before.enters path)
            (got_in program.edges e (edge is.node is.to (Call q is.assigns)) is.along) (IsRow-words_by (unknown_count is.assigns) raised) is.is;
      }

  entered_below : (n k p : ℕ) (s : List ℕ) (came : Came) → k < n → slice_get entries k ≡ Some (entered p s came) → IsEntered program p s
  entered_below zero k p s came below at = absurd (omega arith)
  entered_below (suc n) k p s came below at = entered_by k p s came (came_are k p s came at) (λ j q x other lower there. entered_below n j q x other (omega arith) there)

  pub entry_is_entered : (p : ℕ) (s : List ℕ) → Enters entries p s → IsEntered program p s
  entry_is_entered p s (came, h) = let (k, at) = in_got entries (entered p s came) h in entered_below (k + 1) k p s came (omega arith) at

  pub pair_is_open : (u : ℕ) (m s : List ℕ) → At items u m → Enters entries (owner_of program u) s → IsOpenState program u (apply m s)
  pair_is_open u m s h g =
      let before = entry_is_entered (owner_of program u) s g in
      record { start = before.begin; is_start = before.is_start; path = go_on program before.begin (owner_of program u) u m s before.enters (at_is_path program items formed are u m h) }

  came_rows : (k p : ℕ) (s : List ℕ) (came : Came) → IsCameBy program items entries k came p s → IsRow 17 s
  came_rows k p s (StartTag raised) is = start_is_row program raised s is.is
  came_rows k p s (EnterTag outer level e raised) is = rw is.is (IsRow-vector _)

  pub entries_are_rows : (p : ℕ) → AreRows 17 (Enters entries p)
  entries_are_rows p s (came, h) = let (k, at) = in_got entries (entered p s came) h in came_rows k p s came (came_are k p s came at)

  module _ (closed : IsClosed program items) (over : IsClosedOver program items entries) where
    entry_modules : (p : ℕ) → IsModule 17 (SpannedAt entries p)
    entry_modules p = combinations 17 (Enters entries p) (entries_are_rows p)

    abbrev pub At_and_Enters : ℕ → List ℕ → Type 0
    At_and_Enters u = Products apply (At items u) (Enters entries (owner_of program u))

    pub pairs_are_rows : (u : ℕ) → AreRows 17 (At_and_Enters u)
    pairs_are_rows u x h = rw h.is (IsRow-vector _)

    joined : (u : ℕ) (m s : List ℕ) → Spanned items u m → SpannedAt entries (owner_of program u) s → IsCombination 17 (At_and_Enters u) (apply m s)
    joined u m s h g =
        let span = products_span 289 17 17 apply apply_is_bilinear (At items u) (Enters entries (owner_of program u)) (at_are_rows program items formed are u) (entries_are_rows (owner_of program u)) in
        span.back (apply m s) (generator 17 (Products apply (Spanned items u) (SpannedAt entries (owner_of program u))) (λ x i. rw i.is (IsRow-vector _)) (apply m s)
        (record { left = m; right = s; member_left = h; member_right = g; is = refl }))

    started : (s : List ℕ) → Start program s → SpannedAt entries program.start s
    started s start =
        module_least 17 (SpannedAt entries program.start) (entry_modules program.start) (IsSimpleStart program) (λ x (raised, is). over.starts raised x is) s (start_is_spanned program s start)

    -- what a call makes of a pair, under each choice
    called_pair : (q u v : ℕ) (assigns : List Assign) (words m s : List ℕ) → Contains program.edges (edge u v (Call q assigns)) → Choice assigns words
        → At items u m → Enters entries (owner_of program u) s → SpannedAt entries q (apply (matrix_of assigns words) (apply m s))
    called_pair q u v assigns words m s contains choice h g =
        let x = apply m s in
        let row : IsRow 17 x = IsRow-vector _ in
        rw (← identity_step assigns words)
        (mapped_into 289 17 (λ n. apply n x) (apply_is_bilinear.first x row) (IsSimpleStep assigns (identity 16)) (SpannedAt entries q) (simple_steps_are_rows assigns (identity 16)) (entry_modules q)
        (λ n (raised, below, is). rw (is, identity_step assigns (words_by (unknown_count assigns) raised)) (over.calls q u v assigns raised m s contains below h g))
        (step_map assigns words (identity 16)) (step_is_spanned assigns (identity 16) (call_placed program formed u v q assigns contains) (IsRow-matrix _) words choice))

    called_state : (q u v : ℕ) (assigns : List Assign) (words state : List ℕ) → Contains program.edges (edge u v (Call q assigns)) → Choice assigns words
        → IsCombination 17 (At_and_Enters u) state → SpannedAt entries q (apply (matrix_of assigns words) state)
    called_state q u v assigns words state contains choice h =
        mapped_into 17 17 (apply (matrix_of assigns words)) (apply_is_bilinear.second (matrix_of assigns words) (subst (IsRow 289) (identity_step assigns words) (IsRow-matrix _))) (At_and_Enters u) (SpannedAt entries q)
        (pairs_are_rows u) (entry_modules q) (λ x i. rw i.is (called_pair q u v assigns words i.left i.right contains choice i.member_left i.member_right)) state h

    pub open_is_spanned : (begin : List ℕ) (u : ℕ) (v : List ℕ) → Start program begin → OpenPath program begin u v → IsCombination 17 (At_and_Enters u) v
    open_is_spanned begin u v start (first u' m v' path is) =
        let own = (end_of_level_path program formed program.start u m path).1 in
        rw is (joined u m begin (path_is_spanned program items formed are closed program.start u m path) (subst (λ p. SpannedAt entries p begin) (sym own) (started begin start)))
    open_is_spanned begin w v start (enter q u x w' assigns words m state v' path contains choice over_path is) =
        let own = (end_of_level_path program formed q w m over_path).1 in
        let s = apply (matrix_of assigns words) state in
        rw is (joined w m s (path_is_spanned program items formed are closed q w m over_path)
        (subst (λ p. SpannedAt entries p s) (sym own) (called_state q u x assigns words state contains choice (open_is_spanned begin u state start path))))

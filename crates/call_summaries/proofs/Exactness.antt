-- What moves make of the rows of closed modules lies in these, and so does the map of each level path of a procedure that is to
-- be solved.
use Rattle.std.proofs.Common.{◌≡◌, ℕ, ◌⊎◌, inl, inr, Bool, true, false, List, Contains, All, length, get_or, refl, ap, sym, subst, ◌∙◌}
use Rattle.std.proofs.lemmas.Bool.{false≢true}
use Rattle.row_modules.specs.Bases.{IsLeadingBasis}
use Rattle.row_modules.proofs.Laws.{mapped_into}
use Rattle.affine_prog.specs.declared.Program.{Program}
use Rattle.affine_prog.specs.declared.Assign.{Assign}
use Rattle.affine_prog.specs.declared.Kind.{Kind}
use Rattle.affine_prog.specs.declared.Kind.TheVariants.{Do, Call}
use Rattle.affine_prog.specs.Programs.{edge, entry_of, exit_of, slots_of, owner_of, IsWellFormed}
use Rattle.affine_prog.specs.Assignments.{Choice, matrix_of}
use Rattle.affine_prog.specs.LevelPaths.{step_map, LevelPath, opening, step, call}
use Rattle.affine_prog.specs.Laws.{linear_call_map}
use Rattle.affine_prog.proofs.Lemmas.{step_is_linear, call_map-affine, level_map, end_of_level_path}
use Rattle.row_engine.specs.States.{State, rows_at, InModule}
use Rattle.row_engine.specs.Turns.{IsClosed}
use Rattle.row_engine.proofs.Members.{all_rows}
use Rattle.call_summaries.specs.Openings.{Opens}
use Rattle.call_summaries.specs.Pushes.{call_of, MakesOf, JoinsOf}
use Rattle.call_summaries.specs.Solutions.{IsWanted, OthersStay}
use Rattle.call_summaries.proofs.Soundness.{call_is_linear_in_callers, call_is_linear_in_callees}
use Rattle.call_summaries.proofs.Pushing.{modules}

-- a procedure whose exit is not its entry, and that no edge enters, has no level path to its exit
pub no_return : (program : Program) (q : ℕ) → (entry_of program q ≡ exit_of program q → ⊥) → ((u : ℕ) (kind : Kind) → Contains program.edges (edge u (exit_of program q) kind) → ⊥)
    → (x : ℕ) → x ≡ exit_of program q → (m : List ℕ) → LevelPath program q x m → ⊥
no_return program q apart none x at m (opening p' u' words m' within at' row is) = apart (sym at' ∙ at)
no_return program q apart none x at m (step p' u v' assigns words m' n' path contains choice is) = none u (Do assigns) (subst (λ v. Contains program.edges (edge u v (Do assigns))) at contains)
no_return program q apart none x at m (call p' r u v' before words m' callee n' path contains choice called is) = none u (Call r before) (subst (λ v. Contains program.edges (edge u v (Call r before))) at contains)

module _ (program : Program) (formed : IsWellFormed program) (wanted : List Bool) (others : OthersStay program wanted) (s : State) (all : All (IsLeadingBasis 289) s.bases)
    (opens : Opens program (length program.procs) wanted s) (closed : IsClosed 289 (MakesOf program) (JoinsOf program) (λ u m. Contains (rows_at s u) m) s) where
  step_closed : (u v : ℕ) (assigns : List Assign) (words m : List ℕ) → Contains program.edges (edge u v (Do assigns)) → Choice assigns words
      → InModule 289 s u m → InModule 289 s v (step_map assigns words m)
  step_closed u v assigns words m contains choice h =
      mapped_into 289 289 (step_map assigns words) (step_is_linear assigns words) (Contains (rows_at s u)) (InModule 289 s v) (all_rows 289 s.bases all u) (modules s all v)
      (λ x i. closed.alone u v x (step_map assigns words x) i (record { assigns = assigns; words = words; in_edges = contains; choice = choice; is = refl })) m h

  call_closed : (q u v : ℕ) (before : List Assign) (words callee m : List ℕ) → Contains program.edges (edge u v (Call q before)) → Choice before words
      → InModule 289 s (exit_of program q) callee → InModule 289 s u m → InModule 289 s v (call_of program u (matrix_of before words) callee m)
  call_closed q u v before words callee m contains choice g h =
      let r = program.registers in let t = slots_of program (owner_of program u) in let b = matrix_of before words in let x = exit_of program q in
      mapped_into 289 289 (linear_call_map r t b callee) (call_is_linear_in_callers r t b callee) (Contains (rows_at s u)) (InModule 289 s v) (all_rows 289 s.bases all u) (modules s all v)
      (λ y i. mapped_into 289 289 (λ n. linear_call_map r t b n y) (call_is_linear_in_callees r t b y) (Contains (rows_at s x)) (InModule 289 s v) (all_rows 289 s.bases all x) (modules s all v)
      (λ z j. closed.pairs u x v y z (linear_call_map r t b z y) i j (record { callee = q; before = before; words = words; in_edges = contains; exit = refl; choice = choice; is = refl })) callee g) m h

  wanted_or_not : (q : ℕ) → IsWanted wanted q ⊎ (IsWanted wanted q → ⊥)
  wanted_or_not q = which (get_or wanted q true) refl
    where
      which : (b : Bool) → get_or wanted q true ≡ b → IsWanted wanted q ⊎ (IsWanted wanted q → ⊥)
      which true e = inl e
      which false e = inr (λ f. false≢true (sym e ∙ f))

  pub path_in_module : (p u : ℕ) (m : List ℕ) → IsWanted wanted p → LevelPath program p u m → InModule 289 s u m
  path_in_module p u m chosen (opening p' u' words m' within at row is) = rw (is, at) (opens p within chosen words row)
  path_in_module p v n chosen (step p' u v' assigns words m n' path contains choice is) =
      rw is (step_closed u v assigns words m contains choice (path_in_module p u m chosen path))
  path_in_module p v n chosen (call p' q u v' before words m callee n' path contains choice called is) =
      let affine = (level_map program formed q (exit_of program q) callee called).1 in
      let own = (end_of_level_path program formed p u m path).1 in
      let e = is ∙ call_map-affine program.registers (slots_of program p) (matrix_of before words) callee m affine
      ∙ ap (λ k. linear_call_map program.registers (slots_of program k) (matrix_of before words) callee m) (sym own) in
      elim (wanted_or_not q) [
        | inl also ↦ rw e (call_closed q u v before words callee m contains choice (path_in_module q (exit_of program q) callee also called) (path_in_module p u m chosen path))
        | inr other ↦ absurd (others q callee other called)
      ]

-- Behind a chain of assignments the triples of a choice, a placed map and an entry decide.
use Rattle.std.proofs.Common.{◌≡◌, ℕ, List, refl, ap, subst, ◌∙◌}
use Rattle.word_rows.specs.Rows.{IsRow, dot}
use Rattle.row_modules.specs.Modules.{IsModule}
use Rattle.row_modules.specs.Forms.{Solutions}
use Rattle.row_modules.proofs.Laws.{mapped_into, solutions_are_module}
use Rattle.map_modules.specs.Matrices.{apply}
use Rattle.map_modules.proofs.Lemmas.{IsRow-vector, IsRow-matrix, apply_is_bilinear, apply-product}
use Rattle.affine_prog.specs.declared.Program.{Program}
use Rattle.affine_prog.specs.declared.Assign.{Assign}
use Rattle.affine_prog.specs.Programs.{owner_of, IsWellFormed}
use Rattle.affine_prog.specs.Assignments.{unknown_count, Choice, matrix_of}
use Rattle.affine_prog.specs.LevelPaths.{step_map}
use Rattle.affine_prog.specs.OpenPaths.{Start, OpenPath}
use Rattle.affine_prog.proofs.Lemmas.{ArePlaced}
use Rattle.refute_path.specs.declared.Placed.{Placed}
use Rattle.refute_path.specs.declared.Entry.{Entry}
use Rattle.refute_path.specs.Tags.{words_by, AreMade, At, IsClosed}
use Rattle.refute_path.specs.Entries.{AreCame, Enters, IsClosedOver}
use Rattle.refute_path.specs.Chains.{VanishingAlong, BreaksAlong, IsBrokenAlong}
use Rattle.refute_path.proofs.Simple.{IsSimpleStep, simple_steps_are_rows, step_is_spanned, IsRow-words_by}
use Rattle.refute_path.proofs.Tagged.{at_are_rows}
use Rattle.refute_path.proofs.Entering.{At_and_Enters, pairs_are_rows, open_is_spanned, entries_are_rows, pair_is_open, identity_step}

module _ (program : Program) (items : List Placed) (entries : List Entry) (formed : IsWellFormed program) (are : AreMade program items) (came_are : AreCame program items entries)
    (closed : IsClosed program items) (over : IsClosedOver program items entries) (u : ℕ) (chain : List Assign) (a : List ℕ) (placed_low : ArePlaced chain)
    (none : VanishingAlong items entries u (owner_of program u) chain a) where
  abbrev S : List ℕ → Type 0
  S = Solutions 17 (λ b. b ≡ a)

  zeros : IsModule 17 S
  zeros = solutions_are_module 17 (λ b. b ≡ a)

  pair_vanishes : (words m s : List ℕ) → Choice chain words → At items u m → Enters entries (owner_of program u) s → S (apply (matrix_of chain words) (apply m s))
  pair_vanishes words m s choice h g =
      subst S (apply-product (matrix_of chain words) m s)
      (mapped_into 289 17 (λ n. apply n s) (apply_is_bilinear.first s (entries_are_rows program items entries formed are came_are (owner_of program u) s g)) (IsSimpleStep chain m) S
      (simple_steps_are_rows chain m) zeros
      (λ n (raised, below, is). rw is (record { row = IsRow-vector _; zero_at = λ b e. rw e (none raised m s below h g) }))
      (step_map chain words m) (step_is_spanned chain m placed_low (at_are_rows program items formed are u m h) words choice))

  pub chain_vanishes : (begin state words : List ℕ) → Start program begin → OpenPath program begin u state → Choice chain words → dot a (apply (matrix_of chain words) state) ≡ 0
  chain_vanishes begin state words start path choice =
      let row : IsRow 289 (matrix_of chain words) = subst (IsRow 289) (identity_step chain words) (IsRow-matrix _) in
      (mapped_into 17 17 (apply (matrix_of chain words)) (apply_is_bilinear.second (matrix_of chain words) row) (At_and_Enters program items entries formed are came_are closed over u) S
      (pairs_are_rows program items entries formed are came_are closed over u) zeros
      (λ x i. rw i.is (pair_vanishes words i.left i.right choice i.member_left i.member_right)) state
      (open_is_spanned program items entries formed are came_are closed over begin u state start path)).zero_at a refl

pub chain_breaks : (program : Program) (items : List Placed) (entries : List Entry) → IsWellFormed program → AreMade program items → AreCame program items entries
    → (u : ℕ) (chain : List Assign) (a : List ℕ) → BreaksAlong items entries u (owner_of program u) chain a → IsBrokenAlong program u chain a
chain_breaks program items entries formed are came_are u chain a b =
    let before = pair_is_open program items entries formed are came_are u b.map b.state b.item b.entry in
    let words = words_by (unknown_count chain) b.raised in
    record {
      start = before.start;
      is_start = before.is_start;
      state = apply b.map b.state;
      path = before.path;
      words = words;
      choice = IsRow-words_by (unknown_count chain) b.raised;
      not_zero = λ e. b.not_zero (ap (dot a) (apply-product (matrix_of chain words) b.map b.state) ∙ e);
    }

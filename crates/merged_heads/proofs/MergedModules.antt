-- The module at a merged node is what its edge makes of its parent's module, and few rows are placed in a basis of it.
use Rattle.std.proofs.Common.{◌≡◌, ℕ, zero, suc, ◌+◌, ◌*◌, ◌≤◌, ◌<◌, List, [], ◌++◌, Contains, All, length, take, get_or, refl, subst, arith}
use Rattle.std.proofs.lemmas.List.{take_all, get_or_default}
use Rattle.std.proofs.lemmas.List.Elements.{Contains-get_or}
use Rattle.word_rows.specs.Rows.{IsRow}
use Rattle.row_modules.specs.Modules.{AreRows, SameModule}
use Rattle.row_modules.specs.Maps.{Products}
use Rattle.row_modules.proofs.Laws.{products_within, same_with, same_members}
use Rattle.lead_basis.proofs.Laws.{list_has_basis}
use Rattle.map_modules.specs.Matrices.{apply}
use Rattle.map_modules.proofs.Lemmas.{apply_is_bilinear}
use Rattle.affine_prog.specs.declared.Program.{Program}
use Rattle.affine_prog.specs.declared.Assign.{Assign}
use Rattle.affine_prog.specs.Assignments.{position_of}
use Rattle.affine_prog.specs.Programs.{IsWellFormed}
use Rattle.affine_prog.specs.Spans.{IsStateAt}
use Rattle.affine_prog.proofs.Lemmas.{step_placed, open_states_use_few, matrix_is_row}
use Rattle.row_images.specs.States.{Makes, Spans, IsMatrixOf}
use Rattle.row_images.specs.Images.{images_of}
use Rattle.row_images.proofs.Laws.{are_images, images_span}
use Rattle.merged_heads.specs.declared.Merging.{Merging}
use Rattle.merged_heads.specs.Merges.{IsParent, IsMergedTable}
use Rattle.merged_heads.specs.Pushes.{MakesOf, CountsBases}
use Rattle.merged_heads.proofs.Along.{open_row}
use Rattle.merged_heads.proofs.Imaged.{made_of_none, made_of_more, made_of_module}
use Rattle.merged_heads.proofs.Classes.{parent_member}
use Rattle.merged_heads.proofs.Pushed.{merged_comes, merged_goes}

-- there are rows that span what assignments make of one row, and of the rows of a list
module _ (assigns : List Assign) (placed : All (λ a. position_of a < 16) assigns) where
  spans_of_row : (v : List ℕ) → IsRow 17 v → Spans (images_of 1 assigns v) (Makes (IsMatrixOf assigns) v)
  spans_of_row v row = images_span assigns v (images_of 1 assigns v) (are_images 1 (omega arith) assigns v placed row)

  spans_of_rows : (rows : List (List ℕ)) → AreRows 17 (Contains rows) → (i : ℕ) → i ≤ length rows
      → (all : List (List ℕ)) × Spans all (Products apply (IsMatrixOf assigns) (Contains (take i rows)))
  spans_of_rows rows are zero within = ([], made_of_none (IsMatrixOf assigns))
  spans_of_rows rows are (suc i) within =
      let h = spans_of_rows rows are i (omega arith) in
      let row = get_or rows i [] in
      let here = spans_of_row row (are row (Contains-get_or rows i [] (omega arith))) in
      let both : List (List ℕ) = h.0 ++ images_of 1 assigns row in
      let e : i + 1 ≡ suc i = omega arith in
      (both, subst (λ (n : ℕ). Spans both (Products apply (IsMatrixOf assigns) (Contains (take n rows)))) e (made_of_more (IsMatrixOf assigns) rows i row h.0 (images_of 1 assigns row) (omega arith) (get_or_default rows i [] row (omega arith)) h.1 here))

module _ (program : Program) (table : Merging) (w : IsWellFormed program) (merged : IsMergedTable program table) (u v : ℕ) (assigns : List Assign) (below : v < program.nodes) (parent : IsParent program table v u assigns) where
  state_comes : (state : List ℕ) → IsStateAt program v state → Products apply (IsMatrixOf assigns) (IsStateAt program u) state
  state_comes state s =
      let c = merged_comes program table w merged u v assigns below parent s.start state s.path in
      record {
        left = _;
        right = c.before;
        member_left = (c.words, c.choice, refl);
        member_right = record { start = s.start; is_start = s.is_start; path = c.path };
        is = c.state;
      }

  state_goes : (state : List ℕ) → Products apply (IsMatrixOf assigns) (IsStateAt program u) state → IsStateAt program v state
  state_goes state p =
      let m = p.member_left in
      let s = p.member_right in
      record {
        start = s.start;
        is_start = s.is_start;
        path = merged_goes program table w merged u v assigns parent s.start state
            (record { words = m.0; before = p.right; choice = m.1; path = s.path; state = subst (λ x. state ≡ apply x p.right) m.2 p.is });
      }

  pub module_follows : (rows : List (List ℕ)) → AreRows 17 (Contains rows)
      → SameModule 17 (Contains rows) (IsStateAt program u) → SameModule 17 (MakesOf assigns rows) (IsStateAt program v)
  module_follows rows are same =
      let M = IsMatrixOf assigns in
      let matrices : AreRows 289 M = λ m (words, choice, is). rw is (matrix_is_row assigns words) in
      let states : AreRows 17 (IsStateAt program u) = λ state s. open_row program s.start u state s.path in
      let made = made_of_module assigns rows are in
      let there = products_within 289 17 17 apply apply_is_bilinear M (Contains rows) M (IsStateAt program u) matrices are matrices states (λ m h. h) same.there in
      let back = products_within 289 17 17 apply apply_is_bilinear M (IsStateAt program u) M (Contains rows) matrices states matrices are (λ m h. h) same.back in
      same_with 17 (MakesOf assigns rows) (Products apply M (Contains rows)) (IsStateAt program v) (record { there = made.back; back = made.there })
      (same_with 17 (Products apply M (Contains rows)) (Products apply M (IsStateAt program u)) (IsStateAt program v) (record { there = there; back = back })
      (same_members 17 (Products apply M (IsStateAt program u)) (IsStateAt program v) state_goes state_comes))

  pub places_few : (rows : List (List ℕ)) → AreRows 17 (Contains rows)
      → SameModule 17 (Contains rows) (IsStateAt program u) → (before after : ℕ) → CountsBases (MakesOf assigns rows) before after → after ≤ before + 64 * (program.width + 1)
  places_few rows are same before after counts =
      let found = spans_of_rows assigns (step_placed program w u v assigns (parent_member program table v u assigns parent)) rows are (length rows) (omega arith) in
      let all = found.0 in
      let spans : Spans all (Products apply (IsMatrixOf assigns) (Contains rows)) =
      subst (λ xs. Spans all (Products apply (IsMatrixOf assigns) (Contains xs))) (take_all (length rows) rows (omega arith)) found.1 in
      let made = same_with 17 (Contains all) (Products apply (IsMatrixOf assigns) (Contains rows)) (MakesOf assigns rows) spans.same (made_of_module assigns rows are) in
      let b = list_has_basis 17 all spans.rows_are in
      let short = b.short in
      let counted = counts b.basis (record { is_basis = b.is_basis; same = same_with 17 (Contains b.basis) (Contains all) (MakesOf assigns rows) b.same_module made }) in
      let few = open_states_use_few program w v all spans.rows_are (same_with 17 (Contains all) (MakesOf assigns rows) (IsStateAt program v) made (module_follows rows are same)).there in
      omega arith

-- The image under zeros and the unknown rows generate the module of the images under all choices.
use Rattle.std.proofs.Common.{◌≡◌, ℕ, ◌-◌, ◌*◌, ◌<◌, inl, inr, List, [], ◌∷◌, Contains, refl, ap, sym, subst, ◌∙◌, arith, ◌==◌, if◌then◌else◌}
use Rattle.std.proofs.lemmas.Bool.{cases_eq, ne_eqb}
use Rattle.std.proofs.lemmas.List.Elements.{All-contains}
use Rattle.word_rows.specs.Rows.{IsRow}
use Rattle.word_rows.proofs.Laws.{IsRow-zeros}
use Rattle.row_modules.specs.Modules.{AreRows}
use Rattle.row_modules.specs.Choices.{IsChoice}
use Rattle.row_modules.proofs.Laws.{choices_span, rows_with, nothing_contained, first_or_later, contains_first, same_members, same_with}
use Rattle.map_modules.specs.Matrices.{apply}
use Rattle.map_modules.proofs.Lemmas.{IsRow-table, moved-apply}
use Rattle.affine_prog.specs.declared.Assign.{Assign}
use Rattle.affine_prog.specs.Assignments.{unknown_count, matrix_of, made, IsMadeOf}
use Rattle.affine_prog.specs.Laws.{zero_choice}
use Rattle.affine_prog.proofs.Lemmas.{ArePlaced, HasNoConstant, differences_of, differences_are_rows, made_of_none, under_zeros, made_is_choice, choice_is_made}
use Rattle.row_images.specs.Images.{constant_of, IsConstantRow, unknown_rows, images_of, AreImages}
use Rattle.row_images.specs.States.{IsMatrixOf, Makes, Spans}
use Rattle.row_images.proofs.Columns.{differences_are_unknown_rows}

pub made_are_rows : (k : ℕ) (assigns : List Assign) (v : List ℕ) → AreRows (17 * k) (IsMadeOf k assigns v)
made_are_rows k assigns v x (words, choice, is) = rw is (IsRow-table k _)

module _ (k : ℕ) (some : 0 < k) (assigns : List Assign) (v : List ℕ) (placed : ArePlaced assigns) where
  differences_are : AreRows (17 * k) (Contains (differences_of k assigns v))
  differences_are d h = All-contains (IsRow (17 * k)) (differences_of k assigns v) d (differences_are_rows k assigns v) h

  with_differences : AreImages k assigns v (made k assigns [] v ∷ differences_of k assigns v)
  with_differences =
      let start = made k assigns (zero_choice (unknown_count assigns)) v in
      let spans = choices_span (17 * k) start (IsRow-table k _) (differences_of k assigns v) differences_are in
      let members = same_members (17 * k) (IsMadeOf k assigns v) (IsChoice start (differences_of k assigns v)) (made_is_choice k assigns v placed) (choice_is_made k assigns v placed) in
      let same = same_with (17 * k) (IsMadeOf k assigns v) (IsChoice start (differences_of k assigns v)) (Contains (start ∷ differences_of k assigns v)) members spans in
      rw (under_zeros k assigns v) (record {
        rows = rows_with (17 * k) start (differences_of k assigns v) (IsRow-table k _) differences_are;
        same = record { there = same.back; back = same.there };
      })

  -- without a constant the image under zeros is the image under each choice
  start_alone : HasNoConstant k v → AreImages k assigns v (made k assigns [] v ∷ [])
  start_alone none =
      let start = made k assigns [] v in
      let rows : AreRows (17 * k) (Contains (start ∷ [])) = rows_with (17 * k) start [] (IsRow-table k _) (λ x h. absurd (nothing_contained x h)) in
      record {
        rows = rows;
        same = same_members (17 * k) (Contains (start ∷ [])) (IsMadeOf k assigns v)
            (λ x h. elim (first_or_later start [] x h) [
              | inl e ↦ (zero_choice (unknown_count assigns), IsRow-zeros (unknown_count assigns), e ∙ under_zeros k assigns v)
              | inr i ↦ absurd (nothing_contained x i)
            ])
            (λ x (words, choice, is). rw (is, made_of_none k assigns words v placed none) (contains_first start []));
      }

  pub are_images : IsRow (17 * k) v → IsConstantRow k v → AreImages k assigns v (images_of k assigns v)
  are_images row constant_row = elim (cases_eq (constant_of k v) 0) [
    | inl e ↦ subst (AreImages k assigns v) (sym (ap (λ (c : ℕ). made k assigns [] v ∷ (if c == 0 then [] else unknown_rows k assigns c)) e)) (start_alone (at_last e))
    | inr other ↦ subst (AreImages k assigns v)
        (ap (λ (l : List (List ℕ)). made k assigns [] v ∷ l) (differences_are_unknown_rows k some assigns v placed row constant_row
        ∙ sym (ap (λ b. if b then [] else unknown_rows k assigns (constant_of k v)) (ne_eqb (constant_of k v) 0 other)))) with_differences
  ] where
    at_last : constant_of k v ≡ 0 → HasNoConstant k v
    at_last e j below = elim (cases_eq j (k - 1)) [ inl f ↦ rw f e | inr other ↦ constant_row j (omega arith) ]

-- a state has one column, so that its last row is its constant
pub images_span : (assigns : List Assign) (v : List ℕ) (rows : List (List ℕ)) → (IsConstantRow 1 v → AreImages 1 assigns v rows) → Spans rows (Makes (IsMatrixOf assigns) v)
images_span assigns v rows exact =
    let are = exact (λ j below. absurd (omega arith)) in record {
      rows_are = are.rows;
      same = same_with 17 (Contains rows) (IsMadeOf 1 assigns v) (Makes (IsMatrixOf assigns) v) are.same
          (same_members 17 (IsMadeOf 1 assigns v) (Makes (IsMatrixOf assigns) v)
          (λ w (words, choice, is). (matrix_of assigns words, (words, choice, refl), is ∙ moved-apply (matrix_of assigns words) v))
          (λ w (m, (words, choice, is), e). (words, choice, e ∙ ap (λ x. apply x v) is ∙ sym (moved-apply (matrix_of assigns words) v))));
    }

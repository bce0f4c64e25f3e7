-- What a set of matrices makes of the rows of a list, row by row.
use Rattle.std.proofs.Common.{◌≡◌, ℕ, ◌+◌, ◌<◌, inl, inr, List, [], ◌∷◌, ◌++◌, Contains, length, take, get_or, ap, sym, ◌∙◌}
use Rattle.std.proofs.lemmas.List.{take_more}
use Rattle.std.proofs.lemmas.List.Elements.{Contains-push, Contains-push_cases, Contains-append_left, Contains-append_right, Contains-append_cases}
use Rattle.row_modules.specs.Modules.{AreRows, IsCombination, SameModule}
use Rattle.merged_heads.specs.Pushes.{IsBasisOf, CountsBases}
use Rattle.row_modules.specs.Maps.{Products}
use Rattle.row_modules.proofs.Laws.{generator, nothing_contained, products_span, same_with, spans_more, within_from_generators}
use Rattle.map_modules.specs.Matrices.{apply}
use Rattle.map_modules.proofs.Lemmas.{IsRow-vector, apply_is_bilinear}
use Rattle.affine_prog.specs.declared.Assign.{Assign}
use Rattle.row_images.specs.States.{Makes, Spans, IsMatrixOf}
use Rattle.affine_prog.proofs.Lemmas.{matrix_is_row}
use Rattle.merged_heads.specs.Pushes.{MakesOf}

pub products_are_rows : (M P : List ℕ → Type 0) → AreRows 17 (Products apply M P)
products_are_rows M P w p = let e = p.is in rw e (IsRow-vector _)

pub made_of_none : (M : List ℕ → Type 0) → Spans [] (Products apply M (Contains []))
made_of_none M = record {
  rows_are = λ v h. absurd (nothing_contained v h);
  same = record {
    there = spans_more 17 (Contains []) (Products apply M (Contains [])) (λ v h. absurd (nothing_contained v h));
    back = spans_more 17 (Products apply M (Contains [])) (Contains []) (λ w p. absurd (nothing_contained p.right p.member_right));
  };
}

module _ (M : List ℕ → Type 0) (rows : List (List ℕ)) (row : List ℕ) (all more : List (List ℕ)) (so_far : Spans all (Products apply M (Contains rows))) (here : Spans more (Makes M row)) where
  both_are_rows : AreRows 17 (Contains (all ++ more))
  both_are_rows v h = elim (Contains-append_cases all more v h) [ inl k ↦ so_far.rows_are v k | inr k ↦ here.rows_are v k ]

  made_of_one : (w : List ℕ) → Makes M row w → Products apply M (Contains (rows ++ row ∷ [])) w
  made_of_one w (m, in_m, e) = record { left = m; right = row; member_left = in_m; member_right = Contains-push rows row; is = e }

  made_of_both : Spans (all ++ more) (Products apply M (Contains (rows ++ row ∷ [])))
  made_of_both = record {
    rows_are = both_are_rows;
    same = record {
      there = within_from_generators 17 (Contains (all ++ more)) (Products apply M (Contains (rows ++ row ∷ []))) (products_are_rows M (Contains (rows ++ row ∷ [])))
          (λ v h. elim (Contains-append_cases all more v h) [
            | inl k ↦ spans_more 17 (Products apply M (Contains rows)) (Products apply M (Contains (rows ++ row ∷ [])))
                (λ w p. record { left = p.left; right = p.right; member_left = p.member_left; member_right = Contains-append_left rows (row ∷ []) p.right p.member_right; is = p.is })
                v (so_far.same.there v (generator 17 (Contains all) so_far.rows_are v k))
            | inr k ↦ spans_more 17 (Makes M row) (Products apply M (Contains (rows ++ row ∷ []))) made_of_one v (here.same.there v (generator 17 (Contains more) here.rows_are v k))
          ]);
      back = within_from_generators 17 (Products apply M (Contains (rows ++ row ∷ []))) (Contains (all ++ more)) both_are_rows
          (λ w p. elim (Contains-push_cases rows row p.right p.member_right) [
            | inl k ↦ spans_more 17 (Contains all) (Contains (all ++ more)) (λ v i. Contains-append_left all more v i) w
                (so_far.same.back w (generator 17 (Products apply M (Contains rows)) (products_are_rows M (Contains rows)) w
                (record { left = p.left; right = p.right; member_left = p.member_left; member_right = k; is = p.is })))
            | inr e ↦ spans_more 17 (Contains more) (Contains (all ++ more)) (λ v i. Contains-append_right all more v i) w
                (here.same.back w (generator 17 (Makes M row) (λ v (m, in_m, is). rw is (IsRow-vector _)) w (p.left, p.member_left, p.is ∙ ap (apply p.left) (sym e))))
          ]);
    };
  }

-- one more row of a list
pub made_of_more : (M : List ℕ → Type 0) (rows : List (List ℕ)) (i : ℕ) (row : List ℕ) (all more : List (List ℕ)) → i < length rows → row ≡ get_or rows i row
    → Spans all (Products apply M (Contains (take i rows))) → Spans more (Makes M row) → Spans (all ++ more) (Products apply M (Contains (take (i + 1) rows)))
made_of_more M rows i row all more below is so_far here =
    let one : take (i + 1) rows ≡ take i rows ++ row ∷ [] = take_more rows i row below ∙ ap (λ x. take i rows ++ x ∷ []) (sym is) in
    rw one (made_of_both M (take i rows) row all more so_far here)

-- of the rows of a list, and of their combinations
pub made_of_module : (assigns : List Assign) (rows : List (List ℕ)) → AreRows 17 (Contains rows) → SameModule 17 (Products apply (IsMatrixOf assigns) (Contains rows)) (MakesOf assigns rows)
made_of_module assigns rows are =
    let M = IsMatrixOf assigns in
    let matrices : AreRows 289 M = λ m (words, choice, is). rw is (matrix_is_row assigns words) in
    let whole = products_span 289 17 17 apply apply_is_bilinear M (Contains rows) matrices are in
    record {
      there = spans_more 17 (Products apply M (Contains rows)) (MakesOf assigns rows)
          (λ w p. record { left = p.left; right = p.right; member_left = p.member_left; member_right = generator 17 (Contains rows) are p.right p.member_right; is = p.is });
      back = λ w h. whole.back w (spans_more 17 (MakesOf assigns rows) (Products apply (IsCombination 289 M) (IsCombination 17 (Contains rows)))
          (λ v p. record { left = p.left; right = p.right; member_left = generator 289 M matrices p.left p.member_left; member_right = p.member_right; is = p.is }) w h);
    }

-- a basis of what spans the images is one of their module, and no other is shorter
module _ (assigns : List Assign) (rows all : List (List ℕ)) (are : AreRows 17 (Contains rows)) (spans : Spans all (Products apply (IsMatrixOf assigns) (Contains rows))) where
  same_images : SameModule 17 (Contains all) (MakesOf assigns rows)
  same_images = same_with 17 (Contains all) (Products apply (IsMatrixOf assigns) (Contains rows)) (MakesOf assigns rows) spans.same (made_of_module assigns rows are)

  pub pushed_exactly : (pushed : List (List ℕ)) → IsBasisOf (Contains all) pushed → SameModule 17 (Contains pushed) (MakesOf assigns rows)
  pushed_exactly pushed b = same_with 17 (Contains pushed) (Contains all) (MakesOf assigns rows) b.same same_images

  pub pushed_counts : (before after : ℕ) → CountsBases (Contains all) before after → CountsBases (MakesOf assigns rows) before after
  pushed_counts before after counts other is =
      counts other (record {
        is_basis = is.is_basis;
        same = same_with 17 (Contains other) (MakesOf assigns rows) (Contains all) is.same (record { there = same_images.back; back = same_images.there });
      })

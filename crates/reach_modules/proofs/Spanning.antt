-- What sets of matrices make of rows, and what spans it.
use Rattle.std.proofs.Common.{◌≡◌, ℕ, inl, inr, List, [], ◌∷◌, Contains, flat_map, replicate, refl, ap, sym, subst, ◌∙◌, if◌then◌else◌, ◌==◌}
use Rattle.std.proofs.lemmas.Bool.{cases_eq, eq-eqb, ne_eqb}
use Rattle.row_modules.specs.Modules.{AreRows, IsCombination, IsModule, none}
use Rattle.row_modules.specs.Maps.{IsLinear, Products}
use Rattle.row_modules.proofs.Laws.{combinations, contains_first, first_or_later, generator, mapped_into, module_least, nothing_contained, rows_with, spans_more, within_from_generators}
use Rattle.map_modules.specs.Matrices.{product, apply}
use Rattle.map_modules.proofs.Lemmas.{apply_second}
use Rattle.map_modules.proofs.Lemmas.{IsRow-vector}
use Rattle.map_modules.proofs.Lemmas.{apply-product}
use Rattle.row_images.specs.States.{Makes, Spans}
use Rattle.reach_modules.specs.Made.{After, MakesEach}
use Rattle.reach_modules.proofs.Membership.{flat_map_in, flat_map_out}

apply_is_linear : (m : List ℕ) → IsLinear 17 17 (apply m)
apply_is_linear m = record { rows = λ v r. IsRow-vector _; sum = apply_second m }

pub made_are_rows : (M : List ℕ → Type 0) (v : List ℕ) → AreRows 17 (Makes M v)
made_are_rows M v w (m, in_m, e) = rw e (IsRow-vector _)

pub products_are_rows : (M P : List ℕ → Type 0) → AreRows 17 (Products apply M P)
products_are_rows M P w p = let e = p.is in rw e (IsRow-vector _)

-- where the rows of a set go into a module, so do those of its module
pub applied_into : (m : List ℕ) (P S : List ℕ → Type 0) → AreRows 17 P → IsModule 17 S → ((v : List ℕ) → P v → S (apply m v)) → (v : List ℕ) → IsCombination 17 P v → S (apply m v)
applied_into m = mapped_into 17 17 (apply m) (apply_is_linear m)

-- sets with the same members
pub spans_same : (rows : List (List ℕ)) (P Q : List ℕ → Type 0) → ((v : List ℕ) → P v → Q v) → ((v : List ℕ) → Q v → P v) → Spans rows P → Spans rows Q
spans_same rows P Q there back s = record {
  rows_are = s.rows_are;
  same = record { there = λ w h. spans_more 17 P Q there w (s.same.there w h); back = λ w h. s.same.back w (spans_more 17 Q P back w h) };
}

-- rows of zeros may be left out
pub unless_zero : (x : ℕ) (row : List ℕ) (rest : List (List ℕ)) (P : List ℕ → Type 0) → (x ≡ 0 → (v : List ℕ) → Contains rest v → v ≡ replicate 17 0) → Spans (row ∷ rest) P → Spans (row ∷ (if x == 0 then [] else rest)) P
unless_zero x row rest P zeros s = elim (cases_eq x 0) [
  | inl e ↦ subst (λ b. Spans (row ∷ (if b then [] else rest)) P) (sym (eq-eqb x 0 e)) (less_zeros (zeros e))
  | inr ne ↦ subst (λ b. Spans (row ∷ (if b then [] else rest)) P) (sym (ne_eqb x 0 ne)) s
] where
  less_zeros : ((v : List ℕ) → Contains rest v → v ≡ replicate 17 0) → Spans (row ∷ []) P
  less_zeros none_else =
      let first : AreRows 17 (Contains (row ∷ [])) = rows_with 17 row [] (s.rows_are row (contains_first row rest)) (λ w h. absurd (nothing_contained w h)) in
      record {
        rows_are = first;
        same = record {
          there = λ w h. s.same.there w (spans_more 17 (Contains (row ∷ [])) (Contains (row ∷ rest))
              (λ v k. elim (first_or_later row [] v k) [ inl e ↦ rw e (contains_first row rest) | inr l ↦ absurd (nothing_contained v l) ]) w h);
          back = λ w h. within_from_generators 17 (Contains (row ∷ rest)) (Contains (row ∷ [])) first
              (λ v k. elim (first_or_later row rest v k) [
                | inl e ↦ generator 17 (Contains (row ∷ [])) first v (rw e (contains_first row []))
                | inr l ↦ none v (none_else v l)
              ]) w (s.same.back w h);
        };
      }

-- rows that span a set, and for each of them rows that span what M makes of it
module _ (M P : List ℕ → Type 0) (set_rows : AreRows 17 P) (rows all : List (List ℕ)) (spans : Spans rows P) (each : MakesEach M rows all) where
  all_rows : AreRows 17 (Contains (flat_map each.by rows))
  all_rows w h = let i = flat_map_out each.by rows w h in (each.each i.0 (spans.rows_are i.0 i.1)).rows_are w i.2

  forth : (a x : List ℕ) → M a → P x → IsCombination 17 (Contains (flat_map each.by rows)) (apply a x)
  forth a x in_m p =
      applied_into a (Contains rows) (IsCombination 17 (Contains (flat_map each.by rows))) spans.rows_are (combinations 17 (Contains (flat_map each.by rows)) all_rows)
      (λ y h. spans_more 17 (Contains (each.by y)) (Contains (flat_map each.by rows)) (λ z i. flat_map_in each.by rows y z h i)
      (apply a y) ((each.each y (spans.rows_are y h)).same.back (apply a y) (generator 17 (Makes M y) (made_are_rows M y) (apply a y) (a, in_m, refl))))
      x (spans.same.back x (generator 17 P set_rows x p))

  back : (a y : List ℕ) → M a → Contains rows y → IsCombination 17 (Products apply M P) (apply a y)
  back a y in_m h =
      applied_into a P (IsCombination 17 (Products apply M P)) set_rows (combinations 17 (Products apply M P) (products_are_rows M P))
      (λ x p. generator 17 (Products apply M P) (products_are_rows M P) (apply a x) (record { left = a; right = x; member_left = in_m; member_right = p; is = refl }))
      y (spans.same.there y (generator 17 (Contains rows) spans.rows_are y h))

  pub spans_products : Spans all (Products apply M P)
  spans_products = rw each.is (record {
    rows_are = all_rows;
    same = record {
      there = within_from_generators 17 (Contains (flat_map each.by rows)) (Products apply M P) (products_are_rows M P)
          (λ w h. let i = flat_map_out each.by rows w h in
          let s = each.each i.0 (spans.rows_are i.0 i.1) in
          module_least 17 (IsCombination 17 (Products apply M P)) (combinations 17 (Products apply M P) (products_are_rows M P)) (Makes M i.0)
          (λ z (a, in_m, e). rw e (back a i.0 in_m i.1)) w (s.same.there w (generator 17 (Contains (each.by i.0)) s.rows_are w i.2)));
      back = within_from_generators 17 (Products apply M P) (Contains (flat_map each.by rows)) all_rows
          (λ w p. let e = p.is in rw e (forth p.left p.right p.member_left p.member_right));
    };
  })

-- what N makes of a row, and then M
pub spans_after : (M N : List ℕ → Type 0) (v : List ℕ) (rows all : List (List ℕ)) → Spans rows (Makes N v) → MakesEach M rows all → Spans all (Makes (After M N) v)
spans_after M N v rows all s each =
    spans_same all (Products apply M (Makes N v)) (Makes (After M N) v)
    (λ w p. let n = p.member_right in (product p.left n.0, (p.left, n.0, p.member_left, n.1, refl), p.is ∙ ap (apply p.left) n.2 ∙ sym (apply-product p.left n.0 v)))
    (λ w (m, (a, b, in_m, in_n, is), e). record { left = a; right = apply b v; member_left = in_m; member_right = (b, in_n, refl); is = e ∙ ap (λ x. apply x v) is ∙ apply-product a b v })
    (spans_products M (Makes N v) (made_are_rows N v) rows all s each)

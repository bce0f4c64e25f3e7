-- What spans all that an opening can make of a row.
use Rattle.std.proofs.Common.{◌≡◌, ℕ, ◌<◌, inl, inr, List, ◌∷◌, slice_index, replicate, map, Contains, IsTrue, refl, ap, sym, ◌∙◌, bit_and}
use Rattle.word_rows.specs.Rows.{unit, IsRow}
use Rattle.row_modules.specs.Modules.{AreRows, Either, SameModule}
use Rattle.row_modules.specs.Maps.{Image}
use Rattle.row_modules.specs.Positions.{has, IsUnitOn}
use Rattle.row_modules.proofs.Laws.{first_or_later, contains_first, contains_later, spans_more, either_rows, image_within}
use Rattle.map_modules.specs.Matrices.{identity, apply, linear_extension}
use Rattle.map_modules.proofs.Lemmas.{IsRow-matrix, IsRow-vector, apply_is_bilinear}
use Rattle.affine_prog.specs.LevelPaths.{opening_map}
use Rattle.affine_prog.specs.Laws.{slot_words, IsOpening}
use Rattle.affine_prog.proofs.Lemmas.{openings_span}
use Rattle.row_images.specs.States.{Makes, Spans}
use Rattle.reach_modules.specs.Made.{alone, opened_of}
use Rattle.reach_modules.specs.Tables.{ArePositions}
use Rattle.row_engine.proofs.Members.{map_in, map_out}
use Rattle.reach_modules.proofs.Alone.{zeros_alone}
use Rattle.reach_modules.proofs.Spanning.{unless_zero}
use Rattle.reach_modules.proofs.Slots.{one_slot, same_kept, not_in_both}

-- the maps of openings and what they make of a row
module _ (registers set : ℕ) (slots keep v : List ℕ) (apart : bit_and registers set ≡ 0) (are : ArePositions set slots) (keeps : keep ≡ linear_extension registers 0 (identity 16)) (row : IsRow 17 v) where
  abbrev under_zeros : List ℕ
  under_zeros = opening_map registers set (replicate 16 0)

  abbrev few : List ℕ → Type 0
  few = Either (λ m. m ≡ under_zeros) (Image (slot_words registers set) (IsUnitOn 16 set))

  abbrev at_slot : ℕ → List ℕ
  at_slot k = alone k (slice_index v 16)

  abbrev rows : List (List ℕ)
  rows = apply keep v ∷ map at_slot slots

  kept_is : apply keep v ≡ apply under_zeros v
  kept_is = ap (λ m. apply m v) (keeps ∙ same_kept registers set)

  slot_is : (k : ℕ) → k < 16 → IsTrue (has set k) → apply (slot_words registers set (unit 16 k)) v ≡ at_slot k
  slot_is k below member = one_slot registers set v row k below (not_in_both registers set k apart member) member

  few_in : (w : List ℕ) → Image (λ m. apply m v) few w → Contains rows w
  few_in w i = elim i.member [
    | inl e ↦ rw (i.is ∙ ap (λ m. apply m v) e ∙ sym kept_is) (contains_first (apply keep v) (map at_slot slots))
    | inr j ↦
        let u = j.member in
        rw (i.is ∙ ap (λ m. apply m v) (j.is ∙ ap (slot_words registers set) u.is) ∙ slot_is u.position u.within u.there)
        (contains_later (apply keep v) (map at_slot slots) (at_slot u.position) (map_in at_slot slots u.position ((are u.position).1 (u.within, u.there))))
  ]

  in_few : (w : List ℕ) → Contains rows w → Image (λ m. apply m v) few w
  in_few w h = elim (first_or_later (apply keep v) (map at_slot slots) w h) [
    | inl e ↦ record { of = under_zeros; member = inl refl; is = e ∙ kept_is }
    | inr l ↦
        let i = map_out at_slot slots w l in let b = (are i.0).0 i.1 in
        record {
          of = slot_words registers set (unit 16 i.0);
          member = inr (record { of = unit 16 i.0; member = record { position = i.0; within = b.0; there = b.1; is = refl }; is = refl });
          is = i.2 ∙ sym (slot_is i.0 b.0 b.1);
        }
  ]

  images : SameModule 17 (Image (λ m. apply m v) (IsOpening registers set)) (Image (λ m. apply m v) few)
  images =
      let linear = apply_is_bilinear.first v row in let s = openings_span registers set in
      let opening_rows : AreRows 289 (IsOpening registers set) = λ m (words, choice, is). rw is (IsRow-matrix _) in
      let few_rows : AreRows 289 few = either_rows 289 (λ m. m ≡ under_zeros) (Image (slot_words registers set) (IsUnitOn 16 set)) (λ m e. rw e (IsRow-matrix _)) (λ m i. let e = i.is in rw e (IsRow-matrix _)) in
      record {
        there = image_within 289 17 (λ m. apply m v) linear (IsOpening registers set) few opening_rows few_rows s.there;
        back = image_within 289 17 (λ m. apply m v) linear few (IsOpening registers set) few_rows opening_rows s.back;
      }

  all_span : Spans rows (Makes (IsOpening registers set) v)
  all_span = record {
    rows_are = λ w h. let e = (in_few w h).is in rw e (IsRow-vector _);
    same = record {
      there = λ w h. spans_more 17 (Image (λ m. apply m v) (IsOpening registers set)) (Makes (IsOpening registers set) v) (λ x i. (i.of, i.member, i.is)) w
          (images.back w (spans_more 17 (Contains rows) (Image (λ m. apply m v) few) in_few w h));
      back = λ w h. spans_more 17 (Image (λ m. apply m v) few) (Contains rows) few_in w
          (images.there w (spans_more 17 (Makes (IsOpening registers set) v) (Image (λ m. apply m v) (IsOpening registers set)) (λ x (m, i, e). record { of = m; member = i; is = e }) w h));
    };
  }

  pub opened_spans : Spans (opened_of slots keep v) (Makes (IsOpening registers set) v)
  opened_spans =
      unless_zero (slice_index v 16) (apply keep v) (map at_slot slots) (Makes (IsOpening registers set) v)
      (λ e w h. let i = map_out at_slot slots w h in i.2 ∙ ap (alone i.0) e ∙ zeros_alone i.0)
      all_span

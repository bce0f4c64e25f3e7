-- What the maps of openings span: the opening under zeros, and one map for each slot.
use Rattle.std.proofs.Common.{◌≡◌, ℕ, ◌+◌, ◌-◌, ◌*◌, ◌^◌, inl, inr, Bool, true, false, List, slice_index, replicate, refl, ap, sym, subst, ◌∙◌, ◌==◌, ◌&&◌, ◌||◌, if◌then◌else◌}
use Rattle.std.proofs.lemmas.Bool.{cases_eq, and_left}
use Rattle.word_rows.specs.Words.{word}
use Rattle.word_rows.specs.Rows.{words_of, plus, unit}
use Rattle.word_rows.proofs.Laws.{get_or-zeros, IsRow-zeros, unit_elsewhere}
use Rattle.row_modules.specs.Modules.{AreRows, Either, IsCombination, none, SameModule}
use Rattle.row_modules.specs.Maps.{Image}
use Rattle.row_modules.specs.Positions.{has, IsUnitOn}
use Rattle.row_modules.proofs.Laws.{combinations, generator, mapped_into, either_rows, within_from_generators, in_or_out, units_are_rows, from_units, row_on_all, less_first}
use Rattle.map_modules.proofs.Lemmas.{IsRow-matrix, matrix_from_entries}
use Rattle.affine_prog.specs.LevelPaths.{opening_map}
use Rattle.affine_prog.specs.Laws.{slot_words, IsOpening}
use Rattle.affine_prog.proofs.Calls.{opening_map-zeros, slot_words_are_linear}

module _ (registers slots : ℕ) where
  abbrev under_zeros : List ℕ
  under_zeros = opening_map registers slots (replicate 16 0)

  abbrev few : List ℕ → Type 0
  few = Either (λ m. m ≡ under_zeros) (Image (slot_words registers slots) (IsUnitOn 16 slots))

  few_rows : AreRows 289 few
  few_rows =
      either_rows 289 (λ m. m ≡ under_zeros) (Image (slot_words registers slots) (IsUnitOn 16 slots)) (λ v e. rw e (IsRow-matrix _))
      (λ v i. let e = i.is in rw e (IsRow-matrix _))

  opening_rows : AreRows 289 (IsOpening registers slots)
  opening_rows m (words, row, is) = rw is (IsRow-matrix _)

  -- a position that isn't a slot's adds nothing
  hidden_adds_nothing : (k : ℕ) → has slots k ≡ false → slot_words registers slots (unit 16 k) ≡ replicate 289 0
  hidden_adds_nothing k out =
      sym (matrix_from_entries (replicate 289 0) _ (IsRow-zeros 289).width (λ i j below column. get_or-zeros 289 (17 * i + j) ∙ sym (ap word (nothing i j))))
    where
      zero_at : (i j : ℕ) → (if has slots i && (j == 16) then slice_index (unit 16 k) i else 0) ≡ 0
      zero_at i j = elim (cases_eq i k) [
        | inl e ↦ ap (λ b. if b then slice_index (unit 16 k) i else 0) (and_left (has slots i) (j == 16) (rw e out))
        | inr ne ↦ both (has slots i && (j == 16)) _ (unit_elsewhere 16 k i ne)
      ]
        where
          both : (b : Bool) (x : ℕ) → x ≡ 0 → (if b then x else 0) ≡ 0
          both true x e = e
          both false x e = refl

      nothing : (i j : ℕ) → (if has registers i || (i == 16) then 0 else if has slots i && (j == 16) then slice_index (unit 16 k) i else 0) ≡ 0
      nothing i j = first_or (has registers i || (i == 16)) _ (zero_at i j)
        where
          first_or : (b : Bool) (x : ℕ) → x ≡ 0 → (if b then 0 else x) ≡ 0
          first_or true x e = refl
          first_or false x e = e

  -- each unit's map is in the module
  unit_in : (u : List ℕ) → IsUnitOn 16 (2 ^ 16 - 1) u → IsCombination 289 few (slot_words registers slots u)
  unit_in u h = elim (in_or_out slots h.position) [
    | inl slot ↦ generator 289 few few_rows (slot_words registers slots u) (inr (record { of = u; member = record { position = h.position; within = h.within; there = slot; is = h.is }; is = refl }))
    | inr out ↦ none (slot_words registers slots u) (ap (slot_words registers slots) h.is ∙ hidden_adds_nothing h.position out)
  ]

  opening_in : (m : List ℕ) → IsOpening registers slots m → IsCombination 289 few m
  opening_in m (words, row, is) =
      let all = combinations 289 few few_rows in
      let h = mapped_into 16 289 (slot_words registers slots) (slot_words_are_linear registers slots) (IsUnitOn 16 (2 ^ 16 - 1)) (IsCombination 289 few) (units_are_rows 16 (2 ^ 16 - 1)) all
      unit_in words (from_units 16 (2 ^ 16 - 1) words (row_on_all 16 words row)) in
      rw (is, opening_map-zeros registers slots words) (all.sum 1 under_zeros (slot_words registers slots words) (generator 289 few few_rows under_zeros (inl refl)) h)

  few_in : (m : List ℕ) → few m → IsCombination 289 (IsOpening registers slots) m
  few_in m (inl e) = generator 289 (IsOpening registers slots) opening_rows m (replicate 16 0, IsRow-zeros 16, e)
  few_in m (inr i) =
      let all = combinations 289 (IsOpening registers slots) opening_rows in
      let own = generator 289 (IsOpening registers slots) opening_rows (opening_map registers slots i.of) (i.of, units_are_rows 16 slots i.of i.member, refl) in
      let zeros = generator 289 (IsOpening registers slots) opening_rows under_zeros (replicate 16 0, IsRow-zeros 16, refl) in
      subst (IsCombination 289 (IsOpening registers slots)) (ap (λ x. words_of (plus (2 ^ 64 - 1) x under_zeros)) (opening_map-zeros registers slots i.of)
      ∙ less_first 289 under_zeros (slot_words registers slots i.of) (IsRow-matrix _) (IsRow-matrix _) ∙ sym i.is)
      (all.sum (2 ^ 64 - 1) (opening_map registers slots i.of) under_zeros own zeros)

  pub openings_span : SameModule 289 (IsOpening registers slots) few
  openings_span = record {
    there = within_from_generators 289 (IsOpening registers slots) few few_rows opening_in;
    back = within_from_generators 289 few (IsOpening registers slots) opening_rows few_in;
  }

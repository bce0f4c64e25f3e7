-- The openings of procedures.
use Rattle.std.proofs.Common.{◌≡◌, ℕ, ◌<◌, ◌+◌, inl, inr, List, [], ◌∷◌, ◌++◌, Bool, true, false, IsTrue, replicate, slice_index, bit_and, refl, ap, sym, subst, ◌∙◌, arith, ◌==◌, ◌&&◌, ◌||◌, if◌then◌else◌, nat_lt}
use Rattle.std.specs.Int.{bit_at}
use Rattle.std.proofs.lemmas.Bool.{cases_eq, cases_lt, ne_eqb, eq-eqb, false≢true, lt-ltb}
use Rattle.std.proofs.lemmas.Nat.Bits.{bit_at-zero, bit_at_and}
use Rattle.std.proofs.lemmas.List.Elements.{Contains-append_left, Contains-append_right, Contains-append_cases}
use Rattle.word_rows.specs.Words.{word}
use Rattle.word_rows.specs.Rows.{unit}
use Rattle.word_rows.proofs.Laws.{get_or-zeros, unit_at, unit_elsewhere}
use Rattle.row_modules.specs.Positions.{has}
use Rattle.map_modules.specs.Matrices.{entry, identity, linear_extension}
use Rattle.map_modules.proofs.Lemmas.{entry-matrix, matrix_from_entries, same_matrix}
use Rattle.affine_prog.specs.LevelPaths.{opening_map}
use Rattle.affine_prog.specs.Laws.{slot_words}
use Rattle.row_images.specs.Images.{column}
use Rattle.call_summaries.specs.Openings.{OpeningsFirst}
use Rattle.row_images.proofs.Laws.{cell-column, column_length}
use Rattle.row_engine.proofs.Members.{first_in, only_in}

in_identity : (i : ℕ) → i < 17 → (nat_lt i 16 || (i == 16)) ≡ true
in_identity i below = elim (cases_lt i 16) [
  | inl lt ↦ ap (λ b. b || (i == 16)) (lt-ltb i 16 lt)
  | inr ge ↦ let e : i ≡ 16 = omega arith in rw e refl
]

entry-identity : (i j : ℕ) → i < 17 → j < 17 → entry (identity 16) i j ≡ (if j == i then 1 else 0)
entry-identity i j row at_column =
    entry-matrix (λ i j. if (i == j) && (nat_lt i 16 || (i == 16)) then 1 else 0) i j row at_column
    ∙ ap (λ b. word (if (i == j) && b then 1 else 0)) (in_identity i row)
    ∙ elim (cases_eq i j) [
      | inl e ↦ rw e (ap (λ b. word (if b && true then 1 else 0)) (eq-eqb j j refl) ∙ sym (ap (λ b. if b then 1 else 0) (eq-eqb j j refl)))
      | inr other ↦ ap (λ b. word (if b && true then 1 else 0)) (ne_eqb i j other) ∙ sym (ap (λ b. if b then 1 else 0) (ne_eqb j i (λ e. other (sym e))))
    ]

-- the opening with 0 in the slots, as an extension of the identity
pub zero_opening : (registers slots : ℕ) → linear_extension registers 0 (identity 16) ≡ opening_map registers slots (replicate 16 0)
zero_opening registers slots =
    same_matrix
    (λ i j. if has registers i || (i == 16) then entry (identity 16) i j else if has 0 i && (i == j) then entry (identity 16) 16 16 else 0)
    (λ i j. if has registers i || (i == 16) then (if j == i then 1 else 0) else if has slots i && (j == 16) then slice_index (replicate 16 0) i else 0)
    (λ i j row at_column. same (has registers i || (i == 16)) (has 0 i) (i == j) (has slots i && (j == 16)) _ _ _ _ (entry-identity i j row at_column) (ap (λ (n : ℕ). n == 1) (bit_at-zero i)) (get_or-zeros 16 i))
  where
    same : (a b d f : Bool) (x y z t : ℕ) → x ≡ y → b ≡ false → t ≡ 0 → word (if a then x else if b && d then z else 0) ≡ word (if a then y else if f then t else 0)
    same true b d f x y z t e g h = ap word e
    same false true d f x y z t e g h = absurd (false≢true (sym g))
    same false false d true x y z t e g h = sym (ap word h)
    same false false d false x y z t e g h = refl

-- one slot
module _ (registers slots i : ℕ) (below : i < 16) (apart : bit_and registers slots ≡ 0) (slot : IsTrue (has slots i)) where
  not_register : has registers i ≡ false
  not_register = elim (cases_eq (bit_at slots i) 1) [
    | inl e ↦
        let h = bit_at_and registers slots i in let z = ap (λ (n : ℕ). bit_at n i) apart in let y = bit_at-zero i in
        let f : bit_at registers i ≡ 0 = omega arith in ap (λ (n : ℕ). n == 1) f
    | inr other ↦ absurd (false≢true (sym (ne_eqb (bit_at slots i) 1 other) ∙ slot))
  ]

  pub slot_row : slot_words registers slots (unit 16 i) ≡ column 17 i 1
  slot_row =
      sym (matrix_from_entries (column 17 i 1) (λ k j. if has registers k || (k == 16) then 0 else if has slots k && (j == 16) then slice_index (unit 16 i) k else 0) (column_length 17 i 1)
      (λ k j row at_column. cell-column 17 (omega arith) i 1 k j (omega arith) row at_column ∙ elim (cases_eq k i) [
        | inl e ↦ rw e (here (has registers i) (i == 16) (has slots i) (j == 16) (i == i) (slice_index (unit 16 i) i) not_register (ne_eqb i 16 (λ f. omega arith)) slot (eq-eqb i i refl) (unit_at 16 i below))
        | inr other ↦ ap (λ b. if b && (j == 16) then 1 else 0) (ne_eqb k i other) ∙ elsewhere (has registers k || (k == 16)) (has slots k && (j == 16)) (slice_index (unit 16 i) k) (unit_elsewhere 16 i k other)
      ]))
    where
      here : (a b d f s : Bool) (x : ℕ) → a ≡ false → b ≡ false → d ≡ true → s ≡ true → x ≡ 1 → (if s && f then 1 else 0) ≡ word (if a || b then 0 else if d && f then x else 0)
      here true b d f s x e g h t u = absurd (false≢true (sym e))
      here false true d f s x e g h t u = absurd (false≢true (sym g))
      here false false false f s x e g h t u = absurd (false≢true h)
      here false false true true true x e g h t u = sym (ap word u)
      here false false true false true x e g h t u = refl
      here false false true true false x e g h t u = absurd (false≢true t)
      here false false true false false x e g h t u = refl

      elsewhere : (a d : Bool) (x : ℕ) → x ≡ 0 → 0 ≡ word (if a then 0 else if d then x else 0)
      elsewhere true d x e = refl
      elsewhere false true x e = sym (ap word e)
      elsewhere false false x e = refl

-- the loop over slots
pub openings_none : (registers slots : ℕ) (rows : List (List ℕ)) → rows ≡ opening_map registers slots (replicate 16 0) ∷ [] → OpeningsFirst registers slots 0 rows
openings_none registers slots rows is = rw is (record {
  zeros = first_in _ [];
  each = λ m h. absurd (let b = h.1 in omega arith);
  only = λ m h. inl (only_in _ m h);
})

module _ (registers slots n : ℕ) (rows : List (List ℕ)) (first : OpeningsFirst registers slots n rows) where
  pub openings_skipped : has slots n ≡ false → OpeningsFirst registers slots (n + 1) rows
  openings_skipped none = record {
    zeros = first.zeros;
    each = λ m (i, below, slot, is). elim (cases_eq i n) [
      | inl e ↦ absurd (false≢true (sym none ∙ subst (λ k. IsTrue (has slots k)) e slot))
      | inr other ↦ first.each m (i, omega arith, slot, is)
    ];
    only = λ m h. elim (first.only m h) [ inl e ↦ inl e | inr (i, below, slot, is) ↦ inr (i, omega arith, slot, is) ];
  }

  pub openings_added : (more : List (List ℕ)) → IsTrue (has slots n) → more ≡ rows ++ column 17 n 1 ∷ [] → OpeningsFirst registers slots (n + 1) more
  openings_added more slot more_is = rw more_is (record {
    zeros = Contains-append_left rows (column 17 n 1 ∷ []) _ first.zeros;
    each = λ m (i, below, there, is). elim (cases_eq i n) [
      | inl e ↦ Contains-append_right rows (column 17 n 1 ∷ []) m (let f : m ≡ column 17 n 1 = is ∙ ap (λ (k : ℕ). column 17 k 1) e in rw f (first_in (column 17 n 1) []))
      | inr other ↦ Contains-append_left rows (column 17 n 1 ∷ []) m (first.each m (i, omega arith, there, is))
    ];
    only = λ m h. elim (Contains-append_cases rows (column 17 n 1 ∷ []) m h) [
      | inl k ↦ elim (first.only m k) [ inl e ↦ inl e | inr (i, below, there, is) ↦ inr (i, omega arith, there, is) ]
      | inr k ↦ inr (n, omega arith, slot, only_in (column 17 n 1) m k)
    ];
  })

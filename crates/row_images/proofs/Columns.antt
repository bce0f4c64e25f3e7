-- Matrices with one word, in the last column, and the words that assignments leave as they are.
use Rattle.std.proofs.Common.{◌≡◌, ℕ, ◌+◌, ◌-◌, ◌*◌, ◌/◌, ◌<◌, inl, inr, List, [], ◌∷◌, Bool, true, false, length, replicate, slice_index, refl, ap, ap₂, sym, ◌∙◌, arith, ◌==◌, ◌&&◌, if◌then◌else◌, length-set, get_or-set_same, get_or-set_other}
use Rattle.std.proofs.lemmas.Bool.{cases_eq, ne_eqb, eq-eqb}
use Rattle.std.proofs.lemmas.List.{length-replicate}
use Rattle.std.proofs.lemmas.List.Elements.{All-head, All-tail}
use Rattle.word_rows.specs.Words.{word}
use Rattle.word_rows.specs.Rows.{IsRow}
use Rattle.word_rows.proofs.Laws.{get_or-zeros}
use Rattle.map_modules.specs.Matrices.{cell, sum_below, assigned}
use Rattle.map_modules.proofs.Lemmas.{cell_within, position, cell-table, IsRow-table, table_from_cells, row_word}
use Rattle.affine_prog.specs.declared.Assign.{Assign}
use Rattle.affine_prog.specs.declared.Assign.TheVariants.{Affine, Any}
use Rattle.affine_prog.specs.Assignments.{position_of, constant, made}
use Rattle.affine_prog.proofs.Lemmas.{ArePlaced, spread, differences_of}
use Rattle.row_images.specs.Images.{constant_of, IsConstantRow, column, unknown_rows}

pub column_length : (k i c : ℕ) → length (column k i c) ≡ 17 * k
column_length k i c = length-set (replicate (17 * k) 0) (k * i + (k - 1)) c ∙ length-replicate {A = ℕ} (17 * k) 0

module _ (k : ℕ) (some : 0 < k) where
  pub cell-column : (i c r j : ℕ) → i < 17 → r < 17 → j < k → cell k (column k i c) r j ≡ (if (r == i) && (j == k - 1) then c else 0)
  cell-column i c r j below row at_column =
      let long = length-replicate {A = ℕ} (17 * k) 0 in
      let within = cell_within k i (k - 1) below (omega arith) in
      elim (cases_eq r i) [
        | inl e ↦ elim (cases_eq j (k - 1)) [
          | inl f ↦ rw (e, f) (get_or-set_same (replicate (17 * k) 0) (k * i + (k - 1)) c 0 (omega arith)
              ∙ ap₂ (λ a b. if a && b then c else 0) (sym (eq-eqb i i refl)) (sym (eq-eqb (k - 1) (k - 1) refl)))
          | inr other ↦ elsewhere (λ g. other (let h = ap (λ (n : ℕ). k * n) e in omega arith))
              ∙ sym (ap (λ b. if (r == i) && b then c else 0) (ne_eqb j (k - 1) other) ∙ no_second (r == i))
        ]
        | inr other ↦ elsewhere (λ g. other (sym (position k r j at_column).0 ∙ ap (λ (n : ℕ). n / k) g ∙ (position k i (k - 1) (omega arith)).0))
            ∙ sym (ap (λ b. if b && (j == k - 1) then c else 0) (ne_eqb r i other))
      ]
    where
      elsewhere : (k * r + j ≡ k * i + (k - 1) → ⊥) → cell k (column k i c) r j ≡ 0
      elsewhere ne = get_or-set_other (replicate (17 * k) 0) (k * i + (k - 1)) (k * r + j) c 0 ne ∙ get_or-zeros (17 * k) (k * r + j)

      no_second : (b : Bool) → (if b && false then c else 0) ≡ 0
      no_second true = refl
      no_second false = refl

  -- the last row in row i, where it is constant
  pub spread_is_column : (i : ℕ) (v : List ℕ) → i < 17 → IsRow (17 * k) v → IsConstantRow k v → spread k i v ≡ column k i (constant_of k v)
  spread_is_column i v below row constant_row =
      sym (table_from_cells k (column k i (constant_of k v)) (λ r j. if r == i then cell k v 16 j else 0) (column_length k i (constant_of k v))
      (λ r j at_row at_column. cell-column i (constant_of k v) r j below at_row at_column ∙ elim (cases_eq j (k - 1)) [
        | inl e ↦ rw e (ap (λ b. if (r == i) && b then constant_of k v else 0) (eq-eqb (k - 1) (k - 1) refl) ∙ both (r == i) (constant_of k v) (sym (row_word (17 * k) v row (k * 16 + (k - 1)))))
        | inr other ↦ ap (λ b. if (r == i) && b then constant_of k v else 0) (ne_eqb j (k - 1) other) ∙ none (r == i) (constant_of k v) (cell k v 16 j) (constant_row j (omega arith))
      ]))
    where
      both : (b : Bool) (c : ℕ) → c ≡ word c → (if b && true then c else 0) ≡ word (if b then c else 0)
      both true c e = e
      both false c e = refl

      none : (b : Bool) (c d : ℕ) → d ≡ 0 → (if b && false then c else 0) ≡ word (if b then d else 0)
      none true c d e = sym (ap word e)
      none false c d e = refl

  -- an assignment keeps a constant last row, and its constant
  module _ (v form : List ℕ) (i : ℕ) (below : i < 16) (is_row : IsRow (17 * k) v) where
    pub last_kept : (j : ℕ) → j < k → cell k (assigned k v i form) 16 j ≡ cell k v 16 j
    last_kept j inside =
        cell-table k (λ r l. if r == i then sum_below 17 (λ x. slice_index form x * cell k v x l) else cell k v r l) 16 j (omega arith) inside
        ∙ ap (λ b. word (if b then sum_below 17 (λ x. slice_index form x * cell k v x j) else cell k v 16 j)) (ne_eqb 16 i (λ e. omega arith)) ∙ row_word (17 * k) v is_row (k * 16 + j)

    pub constant_kept : IsConstantRow k v → IsConstantRow k (assigned k v i form)
    constant_kept h j inside = last_kept j (omega arith) ∙ h j inside

  -- the differences of what a list makes are the unknown rows
  pub differences_are_unknown_rows : (assigns : List Assign) (v : List ℕ) → ArePlaced assigns → IsRow (17 * k) v → IsConstantRow k v → differences_of k assigns v ≡ unknown_rows k assigns (constant_of k v)
  differences_are_unknown_rows [] v placed row h = refl
  differences_are_unknown_rows (Affine i form ∷ rest) v placed row h =
      let below : i < 16 = All-head (λ a. position_of a < 16) (Affine i form) rest placed in
      differences_are_unknown_rows rest (assigned k v i form) (All-tail (λ a. position_of a < 16) (Affine i form) rest placed) (IsRow-table k _) (constant_kept v form i below row h)
      ∙ ap (unknown_rows k rest) (last_kept v form i below row (k - 1) (omega arith))
  differences_are_unknown_rows (Any i ∷ rest) v placed row h =
      let below : i < 16 = All-head (λ a. position_of a < 16) (Any i) rest placed in
      ap₂ (λ (x : List ℕ) (xs : List (List ℕ)). made k rest [] x ∷ xs) (spread_is_column i v (omega arith) row h)
      (differences_are_unknown_rows rest (assigned k v i (constant 0)) (All-tail (λ a. position_of a < 16) (Any i) rest placed) (IsRow-table k _) (constant_kept v (constant 0) i below row h)
      ∙ ap (unknown_rows k rest) (last_kept v (constant 0) i below row (k - 1) (omega arith)))

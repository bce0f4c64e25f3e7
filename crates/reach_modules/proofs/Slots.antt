-- What the word at one slot adds to what an opening makes of a row, and what each opening keeps.
use Rattle.std.proofs.Common.{◌≡◌, ℕ, ◌*◌, ◌<◌, inl, inr, List, slice_index, replicate, Bool, true, false, refl, ap, sym, ◌∙◌, arith, if◌then◌else◌, ◌==◌, ◌&&◌, ◌||◌, bit_and, min, nat_lt}
use Rattle.std.specs.Int.{bit_at}
use Rattle.std.proofs.lemmas.Bool.{cases_eq, cases_lt, lt-ltb, eq-eqb, ne_eqb, false≢true}
use Rattle.std.proofs.lemmas.Grind.{same_number_lists}
use Rattle.std.proofs.lemmas.Nat.Bits.{bit_at_and, bit_at-zero}
use Rattle.word_rows.specs.Words.{word}
use Rattle.word_rows.specs.Rows.{unit, IsRow}
use Rattle.word_rows.proofs.Laws.{get_or-zeros, unit_at, unit_elsewhere}
use Rattle.row_modules.specs.Positions.{has}
use Rattle.map_modules.specs.Matrices.{entry, sum_below, identity, apply, linear_extension}
use Rattle.map_modules.proofs.Conditions.{and_true, or_true, same_tests}
use Rattle.map_modules.proofs.Lemmas.{word-word, word-mul, sum_below_same, sum_below_pick, entry-matrix, same_matrix, get_or-vector, IsRow-vector}
use Rattle.affine_prog.specs.LevelPaths.{opening_map}
use Rattle.affine_prog.specs.Laws.{slot_words}
use Rattle.reach_modules.specs.Made.{alone}
use Rattle.reach_modules.proofs.Alone.{own_word, alone_is_row, alone_at, alone_elsewhere}

-- the word that a slot is given, and 0 for what is no slot
abbrev given : Bool → Bool → ℕ → ℕ
given true c w = 0
given false true w = w
given false false w = 0

given_at : (b c d : Bool) (w : ℕ) → (if b then 0 else if c && d then w else 0) ≡ (if d then given b c w else 0)
given_at true true true w = refl
given_at true true false w = refl
given_at true false true w = refl
given_at true false false w = refl
given_at false true true w = refl
given_at false true false w = refl
given_at false false true w = refl
given_at false false false w = refl

module _ (registers slots : ℕ) (v : List ℕ) (row : IsRow 17 v) where
  abbrev word_given : List ℕ → ℕ → ℕ
  word_given words i = given (has registers i || (i == 16)) (has slots i) (slice_index words i)

  slots_at : (words : List ℕ) (i : ℕ) → i < 17 → slice_index (apply (slot_words registers slots words) v) i ≡ word (word_given words i * slice_index v 16)
  slots_at words i below =
      get_or-vector _ i below
      ∙ sum_below_same 17 (λ k. entry (slot_words registers slots words) i k * slice_index v k) (λ k. (if k == 16 then word_given words i else 0) * slice_index v k)
      (λ k h. word-mul (entry (slot_words registers slots words) i k) (if k == 16 then word_given words i else 0) (slice_index v k) (slice_index v k)
      (ap word (entry-matrix _ i k below h) ∙ word-word _ ∙ ap word (given_at (has registers i || (i == 16)) (has slots i) (k == 16) (slice_index words i))) refl)
      ∙ ap word (sum_below_pick 17 16 (word_given words i) (λ k. slice_index v k) (omega arith))

  -- what a word at one slot adds
  pub one_slot : (k : ℕ) → k < 16 → has registers k ≡ false → has slots k ≡ true → apply (slot_words registers slots (unit 16 k)) v ≡ alone k (slice_index v 16)
  one_slot k below apart member =
      let c : ℕ = slice_index v 16 in let words : List ℕ = unit 16 k in let made : List ℕ = apply (slot_words registers slots words) v in
      let here : word (word_given words k * c) ≡ c =
      ap (λ b. word (given (b || (k == 16)) (has slots k) (slice_index words k) * c)) apart ∙ ap (λ b. word (given b (has slots k) (slice_index words k) * c)) (ne_eqb k 16 (λ e. omega arith))
      ∙ ap (λ b. word (given false b (slice_index words k) * c)) member ∙ ap (λ w. word (w * c)) (unit_at 16 k below)
      ∙ ap word (let e : 1 * c ≡ c = omega arith in e) ∙ own_word v 16 row in
      let other : (i : ℕ) → (i ≡ k → ⊥) → word (word_given words i * c) ≡ 0 =
      λ i ne. ap (λ w. word (given (has registers i || (i == 16)) (has slots i) w * c)) (unit_elsewhere 16 k i ne)
      ∙ ap (λ w. word (w * c)) (none_given (has registers i || (i == 16)) (has slots i)) ∙ ap word (let e : 0 * c ≡ 0 = omega arith in e) in
      same_number_lists made (alone k c) ((IsRow-vector _).width ∙ sym (alone_is_row k c (own_word v 16 row)).width)
      (λ i h. let b : i < 17 = omega (arith, (IsRow-vector (λ j. sum_below 17 (λ l. entry (slot_words registers slots words) j l * slice_index v l))).width) in
      slots_at words i b ∙ elim (cases_eq i k) [
        | inl e ↦ rw e (here ∙ sym (alone_at k c (omega arith)))
        | inr ne ↦ other i ne ∙ sym (alone_elsewhere k c i ne)
      ])
    where
      none_given : (b c : Bool) → given b c 0 ≡ 0
      none_given true c = refl
      none_given false true = refl
      none_given false false = refl

-- the row that every opening keeps
identity_word : (i j : ℕ) → i < 17 → j < 17 → word (entry (identity 16) i j) ≡ word (if j == i then 1 else 0)
identity_word i j row column =
    ap word (entry-matrix _ i j row column) ∙ word-word _
    ∙ ap (λ b. word (if b then 1 else 0)) (and_true (i == j) (nat_lt i 16 || (i == 16)) covered ∙ same_tests i j)
  where
    covered : (nat_lt i 16 || (i == 16)) ≡ true
    covered = elim (cases_lt i 16) [
      | inl h ↦ ap (λ b. b || (i == 16)) (lt-ltb i 16 h)
      | inr h ↦ or_true (nat_lt i 16) (i == 16) (eq-eqb i 16 (omega arith))
    ]

pub same_kept : (registers slots : ℕ) → linear_extension registers 0 (identity 16) ≡ opening_map registers slots (replicate 16 0)
same_kept registers slots = same_matrix _ _ (λ i j h column. each (has registers i || (i == 16)) i j h column)
  where
    none_cleared : (a b : Bool) (x y : ℕ) → y ≡ 0 → word (if false && a then x else 0) ≡ word (if b then y else 0)
    none_cleared a true x y e = ap word (sym e)
    none_cleared a false x y e = refl

    each : (b : Bool) (i j : ℕ) → i < 17 → j < 17
        → word (if b then entry (identity 16) i j else if has 0 i && (i == j) then entry (identity 16) 16 16 else 0) ≡ word (if b then (if j == i then 1 else 0) else if has slots i && (j == 16) then slice_index (replicate 16 0) i else 0)
    each true i j h column = identity_word i j h column
    each false i j h column =
        ap (λ n. word (if (n == 1) && (i == j) then entry (identity 16) 16 16 else 0)) (bit_at-zero i)
        ∙ none_cleared (i == j) (has slots i && (j == 16)) (entry (identity 16) 16 16) (slice_index (replicate 16 0) i) (get_or-zeros 16 i)

-- a position is not in two sets that share none
pub not_in_both : (s t k : ℕ) → bit_and s t ≡ 0 → has t k ≡ true → has s k ≡ false
not_in_both s t k apart member =
    let m : min (bit_at s k) (bit_at t k) ≡ 0 = sym (bit_at_and s t k) ∙ ap (λ n. bit_at n k) apart ∙ bit_at-zero k in
    elim (cases_eq (bit_at t k) 1) [
      | inl e ↦ ne_eqb (bit_at s k) 1 (λ f. omega arith)
      | inr ne ↦ absurd (false≢true (sym (ne_eqb (bit_at t k) 1 ne) ∙ member))
    ]

-- A product made row after row: a term whose factor is 0 adds nothing.
--
--   AddedUp k n m v i l words   the rows before i are those of m times v, row i has got the first l terms of its sums, and the
--                               rows behind it are 0; n words in all
use Rattle.std.proofs.Common.{◌≡◌, ℕ, ◌+◌, ◌*◌, ◌/◌, ◌%◌, ◌^◌, ◌<◌, ◌≤◌, inl, inr, List, length, replicate, get_or, set, refl, ap, sym, subst, ◌∙◌, arith}
use Rattle.std.proofs.lemmas.Bool.{cases_eq, cases_lt}
use Rattle.std.proofs.lemmas.List.{length-replicate, length-set, get_or-set_same, get_or-set_other, get_or-replicate, get_or_past}
use Rattle.std.proofs.Math.Nat.{add-mod-mod}
use Rattle.word_rows.specs.Words.{word}
use Rattle.map_modules.specs.Matrices.{cell, table, entry, sum_below}
use Rattle.map_modules.specs.RowSums.{HasAdded, AddsTimesRow}
use Rattle.map_modules.proofs.Sums.{sum_below_none, sum_more, word-word}
use Rattle.map_modules.proofs.Entries.{cell_within, position, table_from_cells}

same_row : (k r i j n : ℕ) → j < k → n < k → k * r + j ≡ k * i + n → r ≡ i
same_row k r i j n row column e = sym (position k r j row).0 ∙ ap (λ (p : ℕ). p / k) e ∙ (position k i n column).0

same_column : (k r i j n : ℕ) → j < k → n < k → k * r + j ≡ k * i + n → j ≡ n
same_column k r i j n row column e = sym (position k r j row).1 ∙ ap (λ (p : ℕ). p % k) e ∙ (position k i n column).1

pub added_none : (k i c : ℕ) (v : List ℕ) (l : ℕ) (old : List ℕ) → HasAdded k i c v l 0 old old
added_none k i c v l old = record {
  size = refl;
  added = λ j none. absurd (omega (arith, none));
  later = λ j past within. refl;
  others = λ r j within other. refl;
}

pub added_more : (k i c : ℕ) (v : List ℕ) (l n : ℕ) (old now : List ℕ) (w : ℕ) → i < 17 → n < k → length old ≡ 17 * k
    → HasAdded k i c v l n old now → w ≡ word (cell k now i n + word (c * cell k v l n))
    → HasAdded k i c v l (n + 1) old (set now (k * i + n) w)
added_more k i c v l n old now w row column whole has is =
    let inside : k * i + n < length now = (let h = cell_within k i n row column in let s = has.size in omega (arith, h, s, whole)) in
    let put : w ≡ word (cell k old i n + c * cell k v l n) =
    is ∙ add-mod-mod (cell k now i n) (c * cell k v l n) (2 ^ 64)
    ∙ ap (λ (a : ℕ). word (a + c * cell k v l n)) (has.later n (omega arith) column) in
    let other : (r j : ℕ) → (k * r + j ≡ k * i + n → ⊥) → cell k (set now (k * i + n) w) r j ≡ cell k now r j =
    λ r j differs. get_or-set_other now (k * i + n) (k * r + j) w 0 differs in
    record {
      size = length-set now (k * i + n) w ∙ has.size;
      added = λ j below. elim (cases_eq j n) [
        | inl e ↦ rw e (get_or-set_same now (k * i + n) w 0 inside ∙ put)
        | inr differs ↦ other i j (λ e. differs (same_column k i i j n (omega (arith, below, column, differs)) column e)) ∙ has.added j (omega (arith, below, differs))
      ];
      later = λ j past within. other i j (λ e. absurd (let d = same_column k i i j n within column e in omega (arith, d, past))) ∙ has.later j (omega (arith, past)) within;
      others = λ r j within differs. other r j (λ e. differs (same_row k r i j n within column e)) ∙ has.others r j within differs;
    }

pub record AddedUp (k n : ℕ) (m v : List ℕ) (i l : ℕ) (words : List ℕ) : Type 0 where
  pub size : length words ≡ n
  pub done : (r j : ℕ) → r < i → j < k → cell k words r j ≡ word (sum_below 17 (λ t. entry m r t * cell k v t j))
  pub part : (j : ℕ) → j < k → cell k words i j ≡ word (sum_below l (λ t. entry m i t * cell k v t j))
  pub rest : (r j : ℕ) → i < r → j < k → cell k words r j ≡ 0

zero_there : (xs : List ℕ) (n p : ℕ) → xs ≡ replicate n 0 → get_or xs p 0 ≡ 0
zero_there xs n p e = subst (λ (ys : List ℕ). get_or ys p 0 ≡ 0) (sym e) (elim (cases_lt p n) [
  | inl within ↦ get_or-replicate n p 0 0 within
  | inr past ↦ get_or_past (replicate n 0) p 0 (let long : length (replicate {A = ℕ} n 0) ≡ n = length-replicate n 0 in omega (arith, long, past))
])

pub added_up_none : (k n : ℕ) (m v : List ℕ) → AddedUp k n m v 0 0 (replicate n 0)
added_up_none k n m v = record {
  size = length-replicate n 0;
  done = λ r j none within. absurd (omega (arith, none));
  part = λ j within. zero_there (replicate n 0) n (k * 0 + j) refl ∙ ap word (sym (sum_below_none (λ t. entry m 0 t * cell k v t j)));
  rest = λ r j behind within. zero_there (replicate n 0) n (k * r + j) refl;
}

-- the next row
pub next_row : (k n : ℕ) (m v : List ℕ) (i l : ℕ) (words : List ℕ) → 17 ≤ l → l ≤ 17 → AddedUp k n m v i l words → AddedUp k n m v (i + 1) 0 words
next_row k n m v i l words least most is =
    let all : l ≡ 17 = omega (arith, least, most) in
    record {
      size = is.size;
      done = λ r j before within. elim (cases_eq r i) [
        | inl e ↦ rw e (is.part j within ∙ ap (λ (h : ℕ). word (sum_below h (λ t. entry m i t * cell k v t j))) all)
        | inr differs ↦ is.done r j (omega (arith, before, differs)) within
      ];
      part = λ j within. is.rest (i + 1) j (omega arith) within ∙ ap word (sym (sum_below_none (λ t. entry m (i + 1) t * cell k v t j)));
      rest = λ r j behind within. is.rest r j (omega (arith, behind)) within;
    }

-- the next term
pub next_term : (k n : ℕ) (m v : List ℕ) (i l c : ℕ) (words now : List ℕ) → c ≡ entry m i l → AddedUp k n m v i l words
    → AddsTimesRow k i c v l words now → AddedUp k n m v i (l + 1) now
next_term k n m v i l c words now is up (inl none) =
    let f : ℕ → ℕ → ℕ = λ j t. entry m i t * cell k v t j in
    let zero_term : (j : ℕ) → f j l ≡ 0 * cell k v l j = λ j. ap (λ (e : ℕ). e * cell k v l j) (sym is ∙ none.0) in
    subst (λ ws. AddedUp k n m v i (l + 1) ws) (sym none.1) (record {
      size = up.size;
      done = up.done;
      part = λ j within.
          up.part j within ∙ sym (word-word (sum_below l (f j)))
          ∙ ap word (let e : word (sum_below l (f j)) ≡ word (sum_below l (f j)) + word (0 * cell k v l j) = omega arith in e)
          ∙ sum_more l (word (sum_below l (f j))) 0 (cell k v l j) (f j) refl (zero_term j);
      rest = up.rest;
    })
next_term k n m v i l c words now is up (inr has) = record {
  size = has.size ∙ up.size;
  done = λ r j before within. has.others r j within (λ e. omega (arith, e, before)) ∙ up.done r j before within;
  part = λ j within.
      has.added j within ∙ sym (add-mod-mod (cell k words i j) (c * cell k v l j) (2 ^ 64))
      ∙ sum_more l (cell k words i j) c (cell k v l j) (λ t. entry m i t * cell k v t j) (up.part j within) (ap (λ (e : ℕ). e * cell k v l j) (sym is));
  rest = λ r j behind within. has.others r j within (λ e. omega (arith, e, behind)) ∙ up.rest r j behind within;
}

pub added_up : (k n : ℕ) (m v words : List ℕ) (i : ℕ) → n ≡ 17 * k → 17 ≤ i → AddedUp k n m v i 0 words
    → words ≡ table k (λ r j. sum_below 17 (λ t. entry m r t * cell k v t j))
added_up k n m v words i whole past is =
    table_from_cells k words (λ r j. sum_below 17 (λ t. entry m r t * cell k v t j)) (is.size ∙ whole)
    (λ r j row within. is.done r j (omega (arith, row, past)) within)

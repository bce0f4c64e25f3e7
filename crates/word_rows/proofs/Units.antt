-- What is a row: zeros, sums, multiples, rows with a word set, unit rows.
use Rattle.std.proofs.Common.{◌≡◌, ℕ, zero, suc, ◌+◌, ◌*◌, ◌^◌, ◌<◌, List, [], ◌∷◌, length, get_or, slice_index, set, replicate, refl, ap, sym, ◌∙◌, subst, arith, lit<, length-set, get_or-set_same, get_or-set_other}
use Rattle.std.proofs.Math.Nat.{mod-mod, mod-lt}
use Rattle.std.proofs.lemmas.List.{map-set, length-replicate, set-get_or}
use Rattle.word_rows.specs.Words.{word, IsWord}
use Rattle.word_rows.specs.Rows.{unit, words_of, IsRow, plus, times}
use Rattle.word_rows.proofs.Exact.{plus-zeros}
use Rattle.word_rows.proofs.Wraps.{length-words_of, length-times, length-plus, get_or-words_of, get_or-zeros, words_of-words_of, words_of-zeros}

-- sums, multiples and zeros are rows
pub IsRow-zeros : (n : ℕ) → IsRow n (replicate n 0)
IsRow-zeros n = record { width = length-replicate n 0; words = words_of-zeros n }

pub IsRow-plus : (n c : ℕ) (xs ys : List ℕ) → IsRow n xs → IsRow n ys → IsRow n (words_of (plus c xs ys))
IsRow-plus n c xs ys x y = record {
  width = length-words_of (plus c xs ys) ∙ length-plus c xs ys (x.width ∙ sym y.width) ∙ x.width;
  words = words_of-words_of (plus c xs ys);
}

pub IsRow-times : (n c : ℕ) (xs : List ℕ) → IsRow n xs → IsRow n (words_of (times c xs))
IsRow-times n c xs x = record {
  width = length-words_of (times c xs) ∙ length-times c xs ∙ x.width;
  words = words_of-words_of (times c xs);
}

pub IsWord-get_or : (n : ℕ) (xs : List ℕ) → IsRow n xs → (i : ℕ) → IsWord (get_or xs i 0)
IsWord-get_or n xs row i =
    subst IsWord (sym (get_or-words_of xs i) ∙ ap (λ ys. get_or ys i 0) row.words) (mod-lt (get_or xs i 0) (lit< tt))

-- rows with a word set
words_of-set : (v : List ℕ) (i x : ℕ) → words_of (set v i (word x)) ≡ set (words_of v) i (word x)
words_of-set [] i x = refl
words_of-set (y ∷ v) zero x = ap (λ z. z ∷ words_of v) (mod-mod x (2 ^ 64))
words_of-set (y ∷ v) (suc i) x = ap (λ zs. word y ∷ zs) (words_of-set v i x)

pub IsRow-set : (n i x : ℕ) (v : List ℕ) → IsRow n v → IsRow n (set v i (word x))
IsRow-set n i x v r = record {
  width = length-set v i (word x) ∙ r.width;
  words = words_of-set v i x ∙ ap (λ xs. set xs i (word x)) r.words;
}

-- words set in both parts of a sum
pub plus-set : (c i x y : ℕ) (v w : List ℕ) → length v ≡ length w
    → set (words_of (plus c v w)) i (word (x + c * y)) ≡ words_of (plus c (set v i x) (set w i y))
plus-set c i x y [] [] e = refl
plus-set c i x y [] (b ∷ w) e = absurd (omega arith)
plus-set c i x y (a ∷ v) [] e = absurd (omega arith)
plus-set c zero x y (a ∷ v) (b ∷ w) e = refl
plus-set c (suc i) x y (a ∷ v) (b ∷ w) e = ap (λ zs. word (a + c * b) ∷ zs) (plus-set c i x y v w (omega arith))

-- unit rows
pub IsRow-unit : (n i : ℕ) → IsRow n (unit n i)
IsRow-unit n i = record {
  width = length-set (replicate n 0) i 1 ∙ length-replicate n 0;
  words = map-set word (replicate n 0) i 1 ∙ ap (λ (xs : List ℕ). set xs i 1) (words_of-zeros n);
}

pub unit_at : (n i : ℕ) → i < n → slice_index (unit n i) i ≡ 1
unit_at n i below = let e = length-replicate {A = ℕ} n 0 in get_or-set_same (replicate n 0) i 1 0 (omega arith)

pub unit_elsewhere : (n i k : ℕ) → (k ≡ i → ⊥) → slice_index (unit n i) k ≡ 0
unit_elsewhere n i k ne = get_or-set_other (replicate n 0) i k 1 0 ne ∙ get_or-zeros n k

-- a row is its word at a position times the unit row there, added to the row with 0 there
pub cleared_and_unit : (n i : ℕ) (v : List ℕ) → IsRow n v → v ≡ words_of (plus (slice_index v i) (set v i 0) (unit n i))
cleared_and_unit n i v row =
    let x = slice_index v i in
    let e : 0 + x * 1 ≡ x = omega arith in
    let w : word x ≡ x = sym (get_or-words_of v i) ∙ ap (λ ys. slice_index ys i) row.words in
    sym (set-get_or v i 0) ∙ ap (set v i) (sym (ap word e ∙ w))
    ∙ ap (λ ys. set ys i (word (0 + x * 1))) (sym (ap words_of (plus-zeros x v n row.width) ∙ row.words))
    ∙ plus-set x i 0 1 v (replicate n 0) (row.width ∙ sym (IsRow-zeros n).width)

-- Sums of products of two lists.
use Rattle.std.proofs.Common.{◌≡◌, ℕ, zero, suc, ◌+◌, ◌*◌, ◌^◌, ◌<◌, List, [], ◌∷◌, length, get_or, set, replicate, refl, ap, sym, ◌∙◌, arith}
use Rattle.std.proofs.Math.Nat.{mod-add-mod, add-mod-mod}
use Rattle.std.proofs.lemmas.Nat.{mul-mod_first, mul-mod_second}
use Rattle.word_rows.specs.Words.{word}
use Rattle.word_rows.specs.Rows.{words_of, dot_sum, dot, plus, times}
use Rattle.word_rows.proofs.Wraps.{word-plus_first, word-plus_second}

-- sums of products
pub dot_sum_comm : (xs ys : List ℕ) → dot_sum xs ys ≡ dot_sum ys xs
dot_sum_comm [] [] = refl
dot_sum_comm [] (y ∷ ys) = refl
dot_sum_comm (x ∷ xs) [] = refl
dot_sum_comm (x ∷ xs) (y ∷ ys) = omega (arith, dot_sum_comm xs ys)

pub dot_sum-plus : (c : ℕ) (xs ys zs : List ℕ) → length xs ≡ length ys
    → dot_sum (plus c xs ys) zs ≡ dot_sum xs zs + c * dot_sum ys zs
dot_sum-plus c [] [] zs e = omega arith
dot_sum-plus c [] (y ∷ ys) zs e = absurd (omega arith)
dot_sum-plus c (x ∷ xs) [] zs e = absurd (omega arith)
dot_sum-plus c (x ∷ xs) (y ∷ ys) [] e = omega arith
dot_sum-plus c (x ∷ xs) (y ∷ ys) (z ∷ zs) e = omega (arith, dot_sum-plus c xs ys zs (omega arith))

pub dot_sum-times : (c : ℕ) (xs zs : List ℕ) → dot_sum (times c xs) zs ≡ c * dot_sum xs zs
dot_sum-times c [] zs = omega arith
dot_sum-times c (x ∷ xs) [] = omega arith
dot_sum-times c (x ∷ xs) (z ∷ zs) = omega (arith, dot_sum-times c xs zs)

pub dot_sum_zeros : (n : ℕ) (zs : List ℕ) → dot_sum (replicate n 0) zs ≡ 0
dot_sum_zeros zero zs = refl
dot_sum_zeros (suc n) [] = refl
dot_sum_zeros (suc n) (z ∷ zs) = omega (arith, dot_sum_zeros n zs)

-- c times a unit row picks c times the word at its position
pub dot_sum-unit : (c n i : ℕ) (zs : List ℕ) → i < n
    → dot_sum (set (replicate n 0) i c) zs ≡ c * get_or zs i 0
dot_sum-unit c zero i zs below = absurd (omega arith)
dot_sum-unit c (suc n) zero [] below = omega arith
dot_sum-unit c (suc n) zero (z ∷ zs) below = omega (arith, dot_sum_zeros n zs)
dot_sum-unit c (suc n) (suc i) [] below = omega arith
dot_sum-unit c (suc n) (suc i) (z ∷ zs) below = omega (arith, dot_sum-unit c n i zs (omega arith))

-- the wrapping sum of products, in its first argument; dot_comm turns the arguments
pub dot_comm : (xs ys : List ℕ) → dot xs ys ≡ dot ys xs
dot_comm xs ys = ap word (dot_sum_comm xs ys)

pub dot-words_of : (xs zs : List ℕ) → dot (words_of xs) zs ≡ dot xs zs
dot-words_of [] zs = refl
dot-words_of (x ∷ xs) [] = refl
dot-words_of (x ∷ xs) (z ∷ zs) =
    sym (add-mod-mod (word x * z) (dot_sum (words_of xs) zs) (2 ^ 64)) ∙ ap (λ n. word (word x * z + n)) (dot-words_of xs zs)
    ∙ add-mod-mod (word x * z) (dot_sum xs zs) (2 ^ 64)
    ∙ sym (mod-add-mod (word x * z) (2 ^ 64) (dot_sum xs zs))
    ∙ ap (λ n. word (n + dot_sum xs zs)) (mul-mod_first x z (2 ^ 64))
    ∙ mod-add-mod (x * z) (2 ^ 64) (dot_sum xs zs)

pub dot-plus : (c : ℕ) (xs ys zs : List ℕ) → length xs ≡ length ys
    → dot (words_of (plus c xs ys)) zs ≡ word (dot xs zs + c * dot ys zs)
dot-plus c xs ys zs e =
    dot-words_of (plus c xs ys) zs ∙ ap word (dot_sum-plus c xs ys zs e) ∙ sym (word-plus_first (dot_sum xs zs) c (dot_sum ys zs))
    ∙ sym (word-plus_second (dot xs zs) c (dot_sum ys zs))

pub dot-times : (c : ℕ) (xs zs : List ℕ) → dot (words_of (times c xs)) zs ≡ word (c * dot xs zs)
dot-times c xs zs =
    dot-words_of (times c xs) zs ∙ ap word (dot_sum-times c xs zs) ∙ sym (mul-mod_second c (dot_sum xs zs) (2 ^ 64))

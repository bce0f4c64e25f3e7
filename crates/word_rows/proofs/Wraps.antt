-- Wraps of words and of lists, and the words of sums and multiples at a position.
use Rattle.std.proofs.Common.{◌≡◌, ℕ, zero, suc, ◌+◌, ◌*◌, ◌^◌, List, [], ◌∷◌, length, get_or, replicate, refl, ap, sym, ◌∙◌, arith}
use Rattle.std.proofs.Math.Nat.{mod-mod, mod-add-mod, add-mod-mod}
use Rattle.std.proofs.lemmas.Nat.{mul-mod_first, mul-mod_second}
use Rattle.word_rows.specs.Words.{word}
use Rattle.word_rows.specs.Rows.{words_of, plus, times}

-- a sum whose first part, or whose factor, is wrapped before
pub word-plus_first : (x c y : ℕ) → word (word x + c * y) ≡ word (x + c * y)
word-plus_first x c y = mod-add-mod x (2 ^ 64) (c * y)

pub word-plus_second : (x c y : ℕ) → word (x + c * word y) ≡ word (x + c * y)
word-plus_second x c y =
    sym (add-mod-mod x (c * word y) (2 ^ 64)) ∙ ap (λ n. word (x + n)) (mul-mod_second c y (2 ^ 64)) ∙ add-mod-mod x (c * y) (2 ^ 64)

pub word-plus_factor : (x c y : ℕ) → word (x + word c * y) ≡ word (x + c * y)
word-plus_factor x c y =
    sym (add-mod-mod x (word c * y) (2 ^ 64)) ∙ ap (λ n. word (x + n)) (mul-mod_first c y (2 ^ 64)) ∙ add-mod-mod x (c * y) (2 ^ 64)

-- lengths
pub length-words_of : (xs : List ℕ) → length (words_of xs) ≡ length xs
length-words_of [] = refl
length-words_of (x ∷ xs) = ap suc (length-words_of xs)

pub length-times : (c : ℕ) (xs : List ℕ) → length (times c xs) ≡ length xs
length-times c [] = refl
length-times c (x ∷ xs) = ap suc (length-times c xs)

pub length-plus : (c : ℕ) (xs ys : List ℕ) → length xs ≡ length ys → length (plus c xs ys) ≡ length xs
length-plus c [] ys e = refl
length-plus c (x ∷ xs) [] e = absurd (omega arith)
length-plus c (x ∷ xs) (y ∷ ys) e = ap suc (length-plus c xs ys (omega arith))

pub length-wrapped_plus : (c : ℕ) (xs ys : List ℕ) → length xs ≡ length ys
    → length (words_of (plus c xs ys)) ≡ length xs
length-wrapped_plus c xs ys e = length-words_of (plus c xs ys) ∙ length-plus c xs ys e

pub length-wrapped_times : (c : ℕ) (xs : List ℕ) → length (words_of (times c xs)) ≡ length xs
length-wrapped_times c xs = length-words_of (times c xs) ∙ length-times c xs

-- the word at a position
pub get_or-words_of : (xs : List ℕ) (i : ℕ) → get_or (words_of xs) i 0 ≡ word (get_or xs i 0)
get_or-words_of [] i = refl
get_or-words_of (x ∷ xs) zero = refl
get_or-words_of (x ∷ xs) (suc i) = get_or-words_of xs i

pub get_or-times : (c : ℕ) (xs : List ℕ) (i : ℕ) → get_or (times c xs) i 0 ≡ c * get_or xs i 0
get_or-times c [] i = omega arith
get_or-times c (x ∷ xs) zero = refl
get_or-times c (x ∷ xs) (suc i) = get_or-times c xs i

pub get_or-plus : (c : ℕ) (xs ys : List ℕ) (i : ℕ) → length xs ≡ length ys
    → get_or (plus c xs ys) i 0 ≡ get_or xs i 0 + c * get_or ys i 0
get_or-plus c [] [] i e = omega arith
get_or-plus c [] (y ∷ ys) i e = absurd (omega arith)
get_or-plus c (x ∷ xs) [] i e = absurd (omega arith)
get_or-plus c (x ∷ xs) (y ∷ ys) zero e = refl
get_or-plus c (x ∷ xs) (y ∷ ys) (suc i) e = get_or-plus c xs ys i (omega arith)

pub get_or-wrapped_plus : (c : ℕ) (xs ys : List ℕ) (i : ℕ) → length xs ≡ length ys
    → get_or (words_of (plus c xs ys)) i 0 ≡ word (get_or xs i 0 + c * get_or ys i 0)
get_or-wrapped_plus c xs ys i e = get_or-words_of (plus c xs ys) i ∙ ap word (get_or-plus c xs ys i e)

pub get_or-wrapped_times : (c : ℕ) (xs : List ℕ) (i : ℕ)
    → get_or (words_of (times c xs)) i 0 ≡ word (c * get_or xs i 0)
get_or-wrapped_times c xs i = get_or-words_of (times c xs) i ∙ ap word (get_or-times c xs i)

pub get_or-zeros : (n i : ℕ) → get_or {A = ℕ} (replicate n 0) i 0 ≡ 0
get_or-zeros zero i = refl
get_or-zeros (suc n) zero = refl
get_or-zeros (suc n) (suc i) = get_or-zeros n i

-- wraps: one is enough
pub words_of-words_of : (xs : List ℕ) → words_of (words_of xs) ≡ words_of xs
words_of-words_of [] = refl
words_of-words_of (x ∷ xs) = let h = words_of-words_of xs in let e = mod-mod x (2 ^ 64) in cc

pub words_of-zeros : (n : ℕ) → words_of (replicate n 0) ≡ replicate n 0
words_of-zeros zero = refl
words_of-zeros (suc n) = ap (λ xs. 0 ∷ xs) (words_of-zeros n)

pub words_of-plus_first : (c : ℕ) (xs ys : List ℕ)
    → words_of (plus c (words_of xs) ys) ≡ words_of (plus c xs ys)
words_of-plus_first c [] ys = refl
words_of-plus_first c (x ∷ xs) [] = refl
words_of-plus_first c (x ∷ xs) (y ∷ ys) = let h = words_of-plus_first c xs ys in let e = word-plus_first x c y in cc

pub words_of-plus_second : (c : ℕ) (xs ys : List ℕ)
    → words_of (plus c xs (words_of ys)) ≡ words_of (plus c xs ys)
words_of-plus_second c [] ys = refl
words_of-plus_second c (x ∷ xs) [] = refl
words_of-plus_second c (x ∷ xs) (y ∷ ys) = let h = words_of-plus_second c xs ys in let e = word-plus_second x c y in cc

pub words_of-plus_factor : (c : ℕ) (xs ys : List ℕ) → words_of (plus (word c) xs ys) ≡ words_of (plus c xs ys)
words_of-plus_factor c [] ys = refl
words_of-plus_factor c (x ∷ xs) [] = refl
words_of-plus_factor c (x ∷ xs) (y ∷ ys) = let h = words_of-plus_factor c xs ys in let e = word-plus_factor x c y in cc

pub words_of-times : (c : ℕ) (xs : List ℕ) → words_of (times c (words_of xs)) ≡ words_of (times c xs)
words_of-times c [] = refl
words_of-times c (x ∷ xs) = let h = words_of-times c xs in let e = mul-mod_second c x (2 ^ 64) in cc

pub words_of-times_factor : (c : ℕ) (xs : List ℕ) → words_of (times (word c) xs) ≡ words_of (times c xs)
words_of-times_factor c [] = refl
words_of-times_factor c (x ∷ xs) = let h = words_of-times_factor c xs in let e = mul-mod_first c x (2 ^ 64) in cc

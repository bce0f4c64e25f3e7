-- Words and lists modulo 2^32.
use Rattle.std.proofs.Common.{◌≡◌, ℕ, zero, suc, ◌+◌, ◌*◌, ◌/◌, ◌%◌, ◌^◌, ◌<◌, List, [], ◌∷◌, length, get_or, map, replicate, refl, ap, sym, ◌∙◌, arith, mod-lt}
use Rattle.std.proofs.Math.Nat.{mod-mod, mod-add-mod, add-mod-mod, add-mul-mod_self_left, div-add-mod, mod-eq_of_lt, mul-mod_right}
use Rattle.std.proofs.lemmas.Nat.{mul-mod_second, pow_pos, shl-shr}
use Rattle.word_rows.specs.Words.{word}
use Rattle.word_rows.specs.Rows.{words_of, plus, times}
use Rattle.word_rows.proofs.Laws.{plus-zeros, length-words_of, length-times}
use Rattle.narrow_solver.specs.Narrow.{narrow, narrowed, scaled, IsNarrowRow}

-- words
pub narrow_word : (x : ℕ) → narrow (word x) ≡ narrow x
narrow_word x =
    let d = div-add-mod x (2 ^ 64) in
    let e : x ≡ x % 2 ^ 64 + 2 ^ 32 * (2 ^ 32 * (x / 2 ^ 64)) = omega (arith, d) in
    sym (ap narrow e ∙ add-mul-mod_self_left (x % 2 ^ 64) (2 ^ 32) (2 ^ 32 * (x / 2 ^ 64)))

pub narrow_below : (x : ℕ) → narrow x < 2 ^ 32
narrow_below x = mod-lt x (pow_pos 32)

pub word_narrow : (x : ℕ) → word (narrow x) ≡ narrow x
word_narrow x = mod-eq_of_lt (let h = narrow_below x in omega arith)

pub scaled_word : (x : ℕ) → word (2 ^ 32 * x) ≡ 2 ^ 32 * narrow x
scaled_word x =
    let d = div-add-mod x (2 ^ 32) in
    let e : 2 ^ 32 * x ≡ 2 ^ 32 * (x % 2 ^ 32) + 2 ^ 64 * (x / 2 ^ 32) = omega (arith, d) in
    let h = narrow_below x in
    ap word e ∙ add-mul-mod_self_left (2 ^ 32 * (x % 2 ^ 32)) (2 ^ 64) (x / 2 ^ 32) ∙ mod-eq_of_lt (omega (arith, h))

-- lists
pub length-narrowed : (xs : List ℕ) → length (narrowed xs) ≡ length xs
length-narrowed [] = refl
length-narrowed (x ∷ xs) = ap suc (length-narrowed xs)

pub get_or-narrowed : (xs : List ℕ) (i : ℕ) → get_or (narrowed xs) i 0 ≡ narrow (get_or xs i 0)
get_or-narrowed [] i = refl
get_or-narrowed (x ∷ xs) zero = refl
get_or-narrowed (x ∷ xs) (suc i) = get_or-narrowed xs i

pub narrowed-words_of : (xs : List ℕ) → narrowed (words_of xs) ≡ narrowed xs
narrowed-words_of [] = refl
narrowed-words_of (x ∷ xs) = let h = narrowed-words_of xs in let e = narrow_word x in cc

pub words_of-narrowed : (xs : List ℕ) → words_of (narrowed xs) ≡ narrowed xs
words_of-narrowed [] = refl
words_of-narrowed (x ∷ xs) = let h = words_of-narrowed xs in let e = word_narrow x in cc

narrow-plus_second : (x c y : ℕ) → narrow (x + c * narrow y) ≡ narrow (x + c * y)
narrow-plus_second x c y =
    sym (add-mod-mod x (c * narrow y) (2 ^ 32)) ∙ ap (λ n. narrow (x + n)) (mul-mod_second c y (2 ^ 32)) ∙ add-mod-mod x (c * y) (2 ^ 32)

pub narrowed-plus_first : (c : ℕ) (xs ys : List ℕ) → narrowed (plus c (narrowed xs) ys) ≡ narrowed (plus c xs ys)
narrowed-plus_first c [] ys = refl
narrowed-plus_first c (x ∷ xs) [] = refl
narrowed-plus_first c (x ∷ xs) (y ∷ ys) = let h = narrowed-plus_first c xs ys in let e = mod-add-mod x (2 ^ 32) (c * y) in cc

pub narrowed-plus_second : (c : ℕ) (xs ys : List ℕ) → narrowed (plus c xs (narrowed ys)) ≡ narrowed (plus c xs ys)
narrowed-plus_second c [] ys = refl
narrowed-plus_second c (x ∷ xs) [] = refl
narrowed-plus_second c (x ∷ xs) (y ∷ ys) = let h = narrowed-plus_second c xs ys in let e = narrow-plus_second x c y in cc

-- a sum modulo 2^32 depends on its first part modulo 2^32
pub narrow_sum : (c : ℕ) (v w row : List ℕ) → narrowed v ≡ narrowed w → narrowed (words_of (plus c v row)) ≡ narrowed (words_of (plus c w row))
narrow_sum c v w row e =
    narrowed-words_of (plus c v row) ∙ sym (narrowed-plus_first c v row) ∙ ap (λ (x : List ℕ). narrowed (plus c x row)) e
    ∙ narrowed-plus_first c w row ∙ sym (narrowed-words_of (plus c w row))

-- a row that is 0 modulo 2^32 adds nothing
pub narrow_nothing : (n c : ℕ) (v row : List ℕ) → length v ≡ n → narrowed row ≡ replicate n 0 → narrowed (words_of (plus c v row)) ≡ narrowed v
narrow_nothing n c v row width e =
    narrowed-words_of (plus c v row) ∙ sym (narrowed-plus_second c v row) ∙ ap (λ (x : List ℕ). narrowed (plus c v x)) e
    ∙ ap narrowed (plus-zeros c v n width)

-- 2^32 times a list
pub scaled_is : (xs : List ℕ) → scaled xs ≡ times (2 ^ 32) (narrowed xs)
scaled_is [] = refl
scaled_is (x ∷ xs) = let h = scaled_is xs in let e = scaled_word x in cc

pub narrowed_twice : (xs : List ℕ) → narrowed (narrowed xs) ≡ narrowed xs
narrowed_twice [] = refl
narrowed_twice (x ∷ xs) = let h = narrowed_twice xs in let e = mod-mod x (2 ^ 32) in cc

pub scaled-narrowed : (xs : List ℕ) → scaled (narrowed xs) ≡ scaled xs
scaled-narrowed xs = scaled_is (narrowed xs) ∙ ap (times (2 ^ 32)) (narrowed_twice xs) ∙ sym (scaled_is xs)

multiples_vanish : (xs : List ℕ) → narrowed (times (2 ^ 32) xs) ≡ replicate (length xs) 0
multiples_vanish [] = refl
multiples_vanish (x ∷ xs) = let h = multiples_vanish xs in let e = mul-mod_right (2 ^ 32) x in cc

pub narrowed-scaled : (n : ℕ) (xs : List ℕ) → length xs ≡ n → narrowed (scaled xs) ≡ replicate n 0
narrowed-scaled n xs e = narrowed-words_of (times (2 ^ 32) xs) ∙ multiples_vanish xs ∙ ap (λ (k : ℕ). replicate k 0) e

-- 2^32 times a narrow row, divided again
abbrev pub unscaled : List ℕ → List ℕ
unscaled xs = map (λ x. x / 2 ^ 32) xs

pub divided : (xs : List ℕ) → unscaled (times (2 ^ 32) xs) ≡ xs
divided [] = refl
divided (x ∷ xs) =
    let h = divided xs in
    let e : (2 ^ 32 * x) / 2 ^ 32 ≡ x = ap (λ (y : ℕ). y / 2 ^ 32) (let c : 2 ^ 32 * x ≡ x * 2 ^ 32 = omega arith in c) ∙ shl-shr x 32 in cc

pub unscaled-scaled : (n : ℕ) (v : List ℕ) → IsNarrowRow n v → unscaled (scaled v) ≡ v
unscaled-scaled n v row = ap unscaled (scaled_is v) ∙ divided (narrowed v) ∙ row.words

-- a narrow row times 2^32 has its lead, and 2^32 times its words
pub index_of_scaled : (n : ℕ) (v : List ℕ) (k : ℕ) → IsNarrowRow n v → get_or (scaled v) k 0 ≡ 2 ^ 32 * get_or v k 0
index_of_scaled n v k row = ap (λ (x : List ℕ). get_or x k 0) (scaled_is v ∙ ap (times (2 ^ 32)) row.words) ∙ at v k
  where
    at : (xs : List ℕ) (i : ℕ) → get_or (times (2 ^ 32) xs) i 0 ≡ 2 ^ 32 * get_or xs i 0
    at [] i = refl
    at (x ∷ xs) zero = refl
    at (x ∷ xs) (suc i) = at xs i

pub length-scaled : (v : List ℕ) → length (scaled v) ≡ length v
length-scaled v = length-words_of (times (2 ^ 32) v) ∙ length-times (2 ^ 32) v

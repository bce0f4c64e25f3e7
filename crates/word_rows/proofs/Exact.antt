-- Exact sums and multiples of lists.
use Rattle.std.proofs.Common.{◌≡◌, ℕ, zero, suc, ◌+◌, ◌*◌, List, [], ◌∷◌, length, replicate, refl, arith}
use Rattle.word_rows.specs.Rows.{plus, times}

-- exact sums and multiples of rows
pub plus-zero : (xs ys : List ℕ) → length xs ≡ length ys → plus 0 xs ys ≡ xs
plus-zero [] ys e = refl
plus-zero (x ∷ xs) [] e = absurd (omega arith)
plus-zero (x ∷ xs) (y ∷ ys) e = let h = plus-zero xs ys (omega arith) in let s : x + 0 * y ≡ x = omega arith in cc

pub plus-zeros : (c : ℕ) (xs : List ℕ) (n : ℕ) → length xs ≡ n → plus c xs (replicate n 0) ≡ xs
plus-zeros c [] n e = refl
plus-zeros c (x ∷ xs) zero e = absurd (omega arith)
plus-zeros c (x ∷ xs) (suc n) e = let h = plus-zeros c xs n (omega arith) in let s : x + c * 0 ≡ x = omega arith in cc

pub plus-zeros_first : (c n : ℕ) (ys : List ℕ) → length ys ≡ n → plus c (replicate n 0) ys ≡ times c ys
plus-zeros_first c zero [] e = refl
plus-zeros_first c zero (y ∷ ys) e = absurd (omega arith)
plus-zeros_first c (suc n) [] e = absurd (omega arith)
plus-zeros_first c (suc n) (y ∷ ys) e = let h = plus-zeros_first c n ys (omega arith) in let s : 0 + c * y ≡ c * y = omega arith in cc

-- the order of two additions doesn't matter
pub plus-plus_comm : (c d : ℕ) (xs ys zs : List ℕ) → plus c (plus d xs ys) zs ≡ plus d (plus c xs zs) ys
plus-plus_comm c d [] ys zs = refl
plus-plus_comm c d (x ∷ xs) [] [] = refl
plus-plus_comm c d (x ∷ xs) [] (z ∷ zs) = refl
plus-plus_comm c d (x ∷ xs) (y ∷ ys) [] = refl
plus-plus_comm c d (x ∷ xs) (y ∷ ys) (z ∷ zs) =
    let h = plus-plus_comm c d xs ys zs in let s : (x + d * y) + c * z ≡ (x + c * z) + d * y = omega arith in cc

-- one row added twice
pub plus-plus_same : (c d : ℕ) (xs ys : List ℕ) → plus c (plus d xs ys) ys ≡ plus (c + d) xs ys
plus-plus_same c d [] ys = refl
plus-plus_same c d (x ∷ xs) [] = refl
plus-plus_same c d (x ∷ xs) (y ∷ ys) =
    let h = plus-plus_same c d xs ys in let s : (x + d * y) + c * y ≡ x + (c + d) * y = omega arith in cc

-- a multiple of a sum
pub plus-plus_second : (c d : ℕ) (xs ys zs : List ℕ)
    → plus c xs (plus d ys zs) ≡ plus (c * d) (plus c xs ys) zs
plus-plus_second c d [] ys zs = refl
plus-plus_second c d (x ∷ xs) [] zs = refl
plus-plus_second c d (x ∷ xs) (y ∷ ys) [] = refl
plus-plus_second c d (x ∷ xs) (y ∷ ys) (z ∷ zs) =
    let h = plus-plus_second c d xs ys zs in let s : x + c * (y + d * z) ≡ (x + c * y) + (c * d) * z = omega arith in cc

pub plus-times : (c d : ℕ) (xs ys : List ℕ) → plus c xs (times d ys) ≡ plus (c * d) xs ys
plus-times c d [] ys = refl
plus-times c d (x ∷ xs) [] = refl
plus-times c d (x ∷ xs) (y ∷ ys) =
    let h = plus-times c d xs ys in let s : x + c * (d * y) ≡ x + (c * d) * y = omega arith in cc

pub times-plus : (c d : ℕ) (xs ys : List ℕ) → times c (plus d xs ys) ≡ plus (c * d) (times c xs) ys
times-plus c d [] ys = refl
times-plus c d (x ∷ xs) [] = refl
times-plus c d (x ∷ xs) (y ∷ ys) =
    let h = times-plus c d xs ys in let s : c * (x + d * y) ≡ c * x + (c * d) * y = omega arith in cc

pub times-times : (c d : ℕ) (xs : List ℕ) → times c (times d xs) ≡ times (c * d) xs
times-times c d [] = refl
times-times c d (x ∷ xs) = let h = times-times c d xs in let s : c * (d * x) ≡ (c * d) * x = omega arith in cc

pub times-one : (xs : List ℕ) → times 1 xs ≡ xs
times-one [] = refl
times-one (x ∷ xs) = let h = times-one xs in let s : 1 * x ≡ x = omega arith in cc

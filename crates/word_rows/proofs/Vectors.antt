-- What the operations on vectors of words give.
use Rattle.std.proofs.Common.{◌≡◌, ◌≢◌, ℕ, zero, suc, ◌+◌, ◌-◌, ◌*◌, ◌%◌, ◌^◌, eqb, not, cond, w64, List, [], ◌∷◌, length, map, replicate, refl, ap, sym, ◌∙◌, arith}
use Rattle.std.proofs.Math.Nat.{mod-mod, mod-add-mod, add-mod-mod}
use Rattle.std.proofs.Math.Dec.{eqb-suc-zero}
use Rattle.std.proofs.lemmas.Simd.{bitmask_splat, leading_from_mask_l, trailing_mask_l}
use lib.Count.{count_trailing_zeros}
use Rattle.std.specs.List.{prefix_len}
use Rattle.std.specs.Simd.Lanes.{zip2, sum_l, fold_l, mask_l, top}
use Rattle.word_rows.specs.Words.{word}
use Rattle.word_rows.specs.Rows.{words_of, dot_sum, plus, lead}

-- lanes with c times other lanes added
pub lanes_plus : (c n : ℕ) (xs ys : List ℕ) → length ys ≡ n
    → zip2 (λ x y. (x + y) % 2 ^ 64) xs (zip2 (λ x y. (x * y) % 2 ^ 64) (replicate n c) ys) ≡ words_of (plus c xs ys)
lanes_plus c zero xs [] e = none xs
  where
    none : (xs : List ℕ) → zip2 (λ x y. (x + y) % 2 ^ 64) xs [] ≡ words_of (plus c xs [])
    none [] = refl
    none (x ∷ xs) = refl
lanes_plus c (suc n) xs [] e = absurd (omega arith)
lanes_plus c zero xs (y ∷ ys) e = absurd (omega arith)
lanes_plus c (suc n) [] (y ∷ ys) e = refl
lanes_plus c (suc n) (x ∷ xs) (y ∷ ys) e =
    let h = lanes_plus c n xs ys (omega arith) in let s = add-mod-mod x (c * y) (2 ^ 64) in cc

-- the sum of lanes to which the products of other lanes were added
pub lanes_dot : (sums xs ys : List ℕ) → length sums ≡ length xs → length sums ≡ length ys
    → word (sum_l (zip2 (λ s p. (s + p) % 2 ^ 64) sums (zip2 (λ x y. (x * y) % 2 ^ 64) xs ys))) ≡ word (sum_l sums + dot_sum xs ys)
lanes_dot [] [] [] a b = refl
lanes_dot [] [] (y ∷ ys) a b = absurd (omega arith)
lanes_dot [] (x ∷ xs) ys a b = absurd (omega arith)
lanes_dot (s ∷ sums) [] ys a b = absurd (omega arith)
lanes_dot (s ∷ sums) (x ∷ xs) [] a b = absurd (omega arith)
lanes_dot (s ∷ sums) (x ∷ xs) (y ∷ ys) a b =
    let m = 2 ^ 64 in
    let rest = sum_l (zip2 (λ s p. (s + p) % 2 ^ 64) sums (zip2 (λ x y. (x * y) % 2 ^ 64) xs ys)) in
    mod-add-mod (s + (x * y) % m) m rest
    ∙ ap word (let e : s + (x * y) % m + rest ≡ s + rest + (x * y) % m = omega arith in e)
    ∙ add-mod-mod (s + rest) (x * y) m
    ∙ ap word (let e : s + rest + x * y ≡ s + x * y + rest = omega arith in e)
    ∙ sym (add-mod-mod (s + x * y) rest m) ∙ ap (λ n. word (s + x * y + n)) (lanes_dot sums xs ys (omega arith) (omega arith))
    ∙ add-mod-mod (s + x * y) (sum_l sums + dot_sum xs ys) m
    ∙ ap word (let e : s + x * y + (sum_l sums + dot_sum xs ys) ≡ s + sum_l sums + (x * y + dot_sum xs ys) = omega arith in e)

-- the wrapping sum of lanes
pub lanes_sum : (a : ℕ) (xs : List ℕ) → word a ≡ a → fold_l (λ s x. (s + x) % 2 ^ 64) a xs ≡ word (a + sum_l xs)
lanes_sum a [] fits = sym fits ∙ ap word (let e : a ≡ a + 0 = omega arith in e)
lanes_sum a (x ∷ xs) fits =
    lanes_sum (word (a + x)) xs (mod-mod (a + x) (2 ^ 64))
    ∙ mod-add-mod (a + x) (2 ^ 64) (sum_l xs) ∙ ap word (let e : a + x + sum_l xs ≡ a + (x + sum_l xs) = omega arith in e)

-- how many lanes are 0 before the first that isn't
prefix_lead : (xs : List ℕ) → prefix_len (λ x. not (not (eqb x 0))) xs ≡ lead xs
prefix_lead [] = refl
prefix_lead (zero ∷ xs) = omega (arith, prefix_lead xs)
prefix_lead (suc x ∷ xs) = rw eqb-suc-zero refl

abbrev pub others_mask : List ℕ → ℕ
others_mask xs = mask_l (map (top 63) (zip2 (λ x y. cond (not (eqb x y)) (2 ^ 64 - 1) 0) xs (replicate 8 0))) % 2 ^ 64

pub mask_none : (xs : List ℕ) → length xs ≡ 8 → others_mask xs ≡ 0 → 8 ≡ lead xs
mask_none xs long none =
    sym long ∙ sym (leading_from_mask_l (λ x. not (eqb x 0)) xs (sym (bitmask_splat w64 (λ x y. not (eqb x y)) xs 8 0 long (omega arith)) ∙ none))
    ∙ prefix_lead xs

pub mask_some : (xs : List ℕ) → length xs ≡ 8 → others_mask xs ≢ 0 → count_trailing_zeros 64 (others_mask xs) ≡ lead xs
mask_some xs long some =
    let bits = bitmask_splat w64 (λ x y. not (eqb x y)) xs 8 0 long (omega arith) in
    ap (count_trailing_zeros 64) bits
    ∙ trailing_mask_l (λ x. not (eqb x 0)) 64 xs (omega arith) (omega arith) ∙ prefix_lead xs

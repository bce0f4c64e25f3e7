-- Sums of words over the first numbers: under one wrap, and in any order.
use Rattle.std.proofs.Common.{◌≡◌, ℕ, zero, suc, ◌+◌, ◌*◌, ◌^◌, ◌<◌, ◌≤◌, inl, inr, refl, ap, sym, ◌∙◌, arith, if◌then◌else◌, ◌==◌, add-one}
use Rattle.std.proofs.Math.Nat.{mod-mod, mod-add-mod, add-mod-mod}
use Rattle.std.proofs.lemmas.Nat.{mul-mod_first, mul-mod_second}
use Rattle.std.proofs.lemmas.Bool.{eq-eqb, ne_eqb, cases_eq}
use Rattle.word_rows.specs.Words.{word}
use Rattle.map_modules.specs.Matrices.{sum_below}

pub word-add : (a b c d : ℕ) → word a ≡ word b → word c ≡ word d → word (a + c) ≡ word (b + d)
word-add a b c d e f =
    sym (mod-add-mod a (2 ^ 64) c) ∙ sym (add-mod-mod (word a) c (2 ^ 64)) ∙ (let g : word (word a + word c) ≡ word (word b + word d) = cc in g)
    ∙ add-mod-mod (word b) d (2 ^ 64) ∙ mod-add-mod b (2 ^ 64) d

pub word-mul : (a b c d : ℕ) → word a ≡ word b → word c ≡ word d → word (a * c) ≡ word (b * d)
word-mul a b c d e f =
    sym (mul-mod_first a c (2 ^ 64)) ∙ sym (mul-mod_second (word a) c (2 ^ 64)) ∙ (let g : word (word a * word c) ≡ word (word b * word d) = cc in g)
    ∙ mul-mod_second (word b) d (2 ^ 64) ∙ mul-mod_first b d (2 ^ 64)

pub word-word : (a : ℕ) → word (word a) ≡ word a
word-word a = mod-mod a (2 ^ 64)

pub sum_below_none : (f : ℕ → ℕ) → sum_below 0 f ≡ 0
unfolding sum_below
sum_below_none f = refl

pub sum_below-suc : (n : ℕ) (f : ℕ → ℕ) → sum_below (suc n) f ≡ sum_below n f + f n
unfolding sum_below
sum_below-suc n f = refl

-- one more term, wrapped on the way
pub sum_more : (n s a b : ℕ) (f : ℕ → ℕ) → s ≡ word (sum_below n f) → f n ≡ a * b
    → word (s + word (a * b)) ≡ word (sum_below (n + 1) f)
sum_more n s a b f so_far term =
    word-add s (sum_below n f) (word (a * b)) (f n) (ap word so_far ∙ word-word (sum_below n f)) (word-word (a * b) ∙ ap word (sym term))
    ∙ ap word (sym (sum_below-suc n f)) ∙ ap (λ k. word (sum_below k f)) (sym (add-one n))

-- terms that are the same words give the same word
pub sum_below_same : (n : ℕ) (f g : ℕ → ℕ) → ((k : ℕ) → k < n → word (f k) ≡ word (g k))
    → word (sum_below n f) ≡ word (sum_below n g)
sum_below_same zero f g same = ap word (sum_below_none f ∙ sym (sum_below_none g))
sum_below_same (suc n) f g same =
    ap word (sum_below-suc n f) ∙ word-add (sum_below n f) (sum_below n g) (f n) (g n) (sum_below_same n f g (λ k h. same k (omega arith))) (same n (omega arith))
    ∙ ap word (sym (sum_below-suc n g))

same_terms : (n : ℕ) (f g : ℕ → ℕ) → ((k : ℕ) → f k ≡ g k) → sum_below n f ≡ sum_below n g
same_terms zero f g e = sum_below_none f ∙ sym (sum_below_none g)
same_terms (suc n) f g e =
    sum_below-suc n f ∙ (let h = same_terms n f g e in let t = e n in let s : sum_below n f + f n ≡ sum_below n g + g n = cc in s) ∙ sym (sum_below-suc n g)

sum_of_zeros : (n : ℕ) → sum_below n (λ k. 0) ≡ 0
sum_of_zeros zero = sum_below_none (λ k. 0)
sum_of_zeros (suc n) = sum_below-suc n (λ k. 0) ∙ (let h = sum_of_zeros n in omega arith)

sum_below-add : (n : ℕ) (f g : ℕ → ℕ) → sum_below n (λ k. f k + g k) ≡ sum_below n f + sum_below n g
sum_below-add zero f g =
    sum_below_none (λ k. f k + g k) ∙ (let e = sum_below_none f in let h = sum_below_none g in omega arith)
sum_below-add (suc n) f g =
    sum_below-suc n (λ k. f k + g k) ∙ (let h = sum_below-add n f g in let e = sum_below-suc n f in let d = sum_below-suc n g in omega arith)

pub sum_below-times : (n c : ℕ) (f : ℕ → ℕ) → sum_below n (λ k. c * f k) ≡ c * sum_below n f
sum_below-times zero c f =
    sum_below_none (λ k. c * f k) ∙ (let e : c * 0 ≡ 0 = omega arith in sym e) ∙ ap (λ s. c * s) (sym (sum_below_none f))
sum_below-times (suc n) c f =
    sum_below-suc n (λ k. c * f k) ∙ ap (λ s. s + c * f n) (sum_below-times n c f)
    ∙ (let e : c * sum_below n f + c * f n ≡ c * (sum_below n f + f n) = omega arith in e) ∙ ap (λ s. c * s) (sym (sum_below-suc n f))

pub sum_below-plus : (n c : ℕ) (f g : ℕ → ℕ) → sum_below n (λ k. f k + c * g k) ≡ sum_below n f + c * sum_below n g
sum_below-plus n c f g = sum_below-add n f (λ k. c * g k) ∙ ap (λ s. sum_below n f + s) (sum_below-times n c g)

-- a sum of sums, in the other order
pub sum_below-sum_below : (n m : ℕ) (f : ℕ → ℕ → ℕ)
    → sum_below n (λ i. sum_below m (λ j. f i j)) ≡ sum_below m (λ j. sum_below n (λ i. f i j))
sum_below-sum_below zero m f =
    sum_below_none (λ i. sum_below m (λ j. f i j)) ∙ sym (same_terms m (λ j. sum_below 0 (λ i. f i j)) (λ j. 0) (λ j. sum_below_none (λ i. f i j)) ∙ sum_of_zeros m)
sum_below-sum_below (suc n) m f =
    sum_below-suc n (λ i. sum_below m (λ j. f i j)) ∙ ap (λ s. s + sum_below m (λ j. f n j)) (sum_below-sum_below n m f)
    ∙ sym (sum_below-add m (λ j. sum_below n (λ i. f i j)) (λ j. f n j))
    ∙ same_terms m (λ j. sum_below n (λ i. f i j) + f n j) (λ j. sum_below (suc n) (λ i. f i j)) (λ j. sym (sum_below-suc n (λ i. f i j)))

-- a sum with one term that isn't 0
pub sum_below_pick : (n i c : ℕ) (f : ℕ → ℕ) → i < n → sum_below n (λ k. (if k == i then c else 0) * f k) ≡ c * f i
sum_below_pick zero i c f below = absurd (omega arith)
sum_below_pick (suc n) i c f below =
    sum_below-suc n (λ k. (if k == i then c else 0) * f k) ∙ elim (cases_eq n i) [
      | inl e ↦ ap (λ s. s + (if n == i then c else 0) * f n) (none n (omega arith)) ∙ ap (λ b. 0 + (if b then c else 0) * f n) (eq-eqb n i e)
          ∙ (let h = ap f e in let m = ap (λ (x : ℕ). c * x) h in omega arith)
      | inr e ↦ ap (λ s. s + (if n == i then c else 0) * f n) (sum_below_pick n i c f (omega arith)) ∙ ap (λ b. c * f i + (if b then c else 0) * f n) (ne_eqb n i e)
          ∙ omega arith
    ]
  where
    none : (m : ℕ) → m ≤ i → sum_below m (λ k. (if k == i then c else 0) * f k) ≡ 0
    none zero h = sum_below_none (λ k. (if k == i then c else 0) * f k)
    none (suc m) h =
        sum_below-suc m (λ k. (if k == i then c else 0) * f k) ∙ ap (λ s. s + (if m == i then c else 0) * f m) (none m (omega arith))
        ∙ ap (λ b. 0 + (if b then c else 0) * f m) (ne_eqb m i (λ e. omega arith)) ∙ omega arith

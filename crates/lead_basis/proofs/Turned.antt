-- Rows turned, so that the last word comes first.
use Rattle.std.proofs.Common.{◌≡◌, ℕ, zero, suc, ◌+◌, ◌-◌, ◌*◌, ◌<◌, ◌≤◌, Bool, false, true, cond, List, [], ◌∷◌, ◌++◌, length, get_or, reverse, refl, ap, ap₂, sym, ◌∙◌, arith}
use Rattle.std.proofs.lemmas.Bool.{cond-true, cond-false}
use Rattle.std.proofs.lemmas.List.{reverse-append, length-reverse, get_or-reverse, get_or_past}
use Rattle.std.proofs.lemmas.Grind.{same_number_lists}
use Rattle.word_rows.specs.Words.{word}
use Rattle.word_rows.specs.Rows.{words_of, dot_sum, dot, IsRow}
use Rattle.word_rows.proofs.Laws.{get_or-words_of, length-words_of}
use Rattle.row_modules.specs.Positions.{has}
use Rattle.lead_basis.specs.Mirrors.{masked, mirror}

-- the word at a position
pub turned_index : (n : ℕ) (v : List ℕ) (k : ℕ) → IsRow n v → k < n → get_or (reverse v) k 0 ≡ get_or v (n - 1 - k) 0
turned_index n v k row below =
    let w = row.width in get_or-reverse v k 0 (omega arith) ∙ ap (λ (m : ℕ). get_or v (m - 1 - k) 0) w

pub turned_past : (n : ℕ) (v : List ℕ) (k : ℕ) → IsRow n v → n ≤ k → get_or (reverse v) k 0 ≡ 0
turned_past n v k row past = let w = row.width in let l = length-reverse v in get_or_past (reverse v) k 0 (omega arith)

word_back : (n : ℕ) (v : List ℕ) (k : ℕ) → IsRow n v → word (get_or v k 0) ≡ get_or v k 0
word_back n v k row = sym (get_or-words_of v k) ∙ ap (λ (xs : List ℕ). get_or xs k 0) row.words

pub turned_row : (n : ℕ) (v : List ℕ) → IsRow n v → IsRow n (reverse v)
turned_row n v row = record {
  width = length-reverse v ∙ row.width;
  words =
      let w = row.width in let l = length-reverse v in
      same_number_lists (words_of (reverse v)) (reverse v) (length-words_of (reverse v))
      (λ k below. let h = length-words_of (reverse v) in let i : k < n = omega arith in
      get_or-words_of (reverse v) k ∙ ap word (turned_index n v k row i) ∙ word_back n v (n - 1 - k) row ∙ sym (turned_index n v k row i));
}

-- products
dot_sum-append : (xs ys us vs : List ℕ) → length xs ≡ length ys → dot_sum (xs ++ us) (ys ++ vs) ≡ dot_sum xs ys + dot_sum us vs
dot_sum-append [] [] us vs e = omega arith
dot_sum-append [] (y ∷ ys) us vs e = absurd (omega arith)
dot_sum-append (x ∷ xs) [] us vs e = absurd (omega arith)
dot_sum-append (x ∷ xs) (y ∷ ys) us vs e =
    let r = dot_sum-append xs ys us vs (omega arith) in
    let s : x * y + dot_sum (xs ++ us) (ys ++ vs) ≡ x * y + dot_sum xs ys + dot_sum us vs = omega (arith, r) in s

pub dot_sum-reverse : (xs ys : List ℕ) → length xs ≡ length ys → dot_sum (reverse xs) (reverse ys) ≡ dot_sum xs ys
dot_sum-reverse [] [] e = refl
dot_sum-reverse [] (y ∷ ys) e = absurd (omega arith)
dot_sum-reverse (x ∷ xs) [] e = absurd (omega arith)
dot_sum-reverse (x ∷ xs) (y ∷ ys) e =
    let l = length-reverse xs in let m = length-reverse ys in
    let r = dot_sum-reverse xs ys (omega arith) in
    let a = dot_sum-append (reverse xs) (reverse ys) (x ∷ []) (y ∷ []) (omega arith) in
    let s : dot_sum (reverse xs) (reverse ys) + (x * y + 0) ≡ x * y + dot_sum xs ys = omega (arith, r) in
    ap₂ dot_sum (reverse-append (x ∷ []) xs) (reverse-append (y ∷ []) ys) ∙ a ∙ s

-- words outside a set
pub length-masked : (s k : ℕ) (v : List ℕ) → length (masked s k v) ≡ length v
length-masked s k [] = refl
length-masked s k (x ∷ v) = ap suc (length-masked s (suc k) v)

pub masked_out : (s k i : ℕ) (v : List ℕ) → has s (k + i) ≡ false → get_or (masked s k v) i 0 ≡ 0
masked_out s k i [] out = refl
masked_out s k zero (x ∷ v) out = let e : k ≡ k + 0 = omega arith in cond-false (has s k) x 0 (ap (λ (n : ℕ). has s n) e ∙ out)
masked_out s k (suc i) (x ∷ v) out =
    let e : suc k + i ≡ k + suc i = omega arith in masked_out s (suc k) i v (ap (λ (n : ℕ). has s n) e ∙ out)

pub masked_in : (s k i : ℕ) (v : List ℕ) → has s (k + i) ≡ true → get_or (masked s k v) i 0 ≡ get_or v i 0
masked_in s k i [] seen = refl
masked_in s k zero (x ∷ v) seen = let e : k ≡ k + 0 = omega arith in cond-true (has s k) x 0 (ap (λ (n : ℕ). has s n) e ∙ seen)
masked_in s k (suc i) (x ∷ v) seen =
    let e : suc k + i ≡ k + suc i = omega arith in masked_in s (suc k) i v (ap (λ (n : ℕ). has s n) e ∙ seen)

dot_masked : (s k : ℕ) (a v : List ℕ) → ((i : ℕ) → has s (k + i) ≡ false → get_or a i 0 ≡ 0) → dot_sum a (masked s k v) ≡ dot_sum a v
dot_masked s k [] v z = refl
dot_masked s k (x ∷ a) [] z = refl
dot_masked s k (x ∷ a) (y ∷ v) z =
    let r = dot_masked s (suc k) a v (λ i out. z (suc i) (let e : k + suc i ≡ suc k + i = omega arith in ap (λ (n : ℕ). has s n) e ∙ out)) in
    let here = one (has s k) (λ out. z 0 (let e : k + 0 ≡ k = omega arith in ap (λ (n : ℕ). has s n) e ∙ out)) in
    ap₂ (λ (m n : ℕ). m + n) here r
  where
    one : (seen : Bool) → (seen ≡ false → x ≡ 0) → x * cond seen y 0 ≡ x * y
    one true z = refl
    one false z = let h = z refl in rw h (omega arith)

-- a form at a row turned
pub dot_mirror : (s : ℕ) (a v : List ℕ) → length a ≡ length v → ((i : ℕ) → has s i ≡ false → get_or a i 0 ≡ 0) → dot (reverse a) (mirror s v) ≡ dot a v
dot_mirror s a v e zeros =
    ap word (
    dot_sum-reverse a (masked s 0 v) (e ∙ sym (length-masked s 0 v))
    ∙ dot_masked s 0 a v (λ i out. zeros i (let z : i ≡ 0 + i = omega arith in ap (λ (n : ℕ). has s n) z ∙ out))
    )

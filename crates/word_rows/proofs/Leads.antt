-- The first position whose word isn't 0.
use Rattle.std.proofs.Common.{◌≡◌, ◌≢◌, ℕ, zero, suc, ◌+◌, ◌*◌, ◌<◌, ◌≤◌, List, [], ◌∷◌, length, get_or, replicate, refl, ap, ◌∙◌, arith, add-one}
use Rattle.std.proofs.Math.Dec.{eqb-suc-zero}
use Rattle.word_rows.specs.Words.{word}
use Rattle.word_rows.specs.Rows.{words_of, plus, lead}
use Rattle.word_rows.proofs.Wraps.{length-wrapped_plus, get_or-wrapped_plus}

-- the lead
lead-other : (x : ℕ) (xs : List ℕ) → lead (suc x ∷ xs) ≡ 0
lead-other x xs = rw eqb-suc-zero refl

pub lead-le : (xs : List ℕ) → lead xs ≤ length xs
lead-le [] = omega arith
lead-le (zero ∷ xs) = omega (arith, lead-le xs)
lead-le (suc x ∷ xs) = omega (arith, lead-other x xs)

pub get_or_before_lead : (xs : List ℕ) (i : ℕ) → i < lead xs → get_or xs i 0 ≡ 0
get_or_before_lead [] i before = refl
get_or_before_lead (zero ∷ xs) zero before = refl
get_or_before_lead (zero ∷ xs) (suc i) before = get_or_before_lead xs i (omega arith)
get_or_before_lead (suc x ∷ xs) i before = absurd (omega (arith, lead-other x xs))

pub get_or_at_lead : (xs : List ℕ) → lead xs < length xs → get_or xs (lead xs) 0 ≢ 0
get_or_at_lead [] within = absurd (omega arith)
get_or_at_lead (zero ∷ xs) within = rw add-one (get_or_at_lead xs (omega arith))
get_or_at_lead (suc x ∷ xs) within = rw (lead-other x xs) (λ e. omega arith)

pub get_or_past : (xs : List ℕ) (k : ℕ) → length xs ≤ k → get_or xs k 0 ≡ 0
get_or_past [] k past = refl
get_or_past (x ∷ xs) zero past = absurd (omega arith)
get_or_past (x ∷ xs) (suc k) past = get_or_past xs k (omega arith)

-- a position with a word that isn't 0, and none such before it, is the lead
pub lead_from_index : (xs : List ℕ) (i : ℕ) → i < length xs → get_or xs i 0 ≢ 0
    → ((k : ℕ) → k < i → get_or xs k 0 ≡ 0) → lead xs ≡ i
lead_from_index [] i short here before = absurd (omega arith)
lead_from_index (zero ∷ xs) zero short here before = absurd (here refl)
lead_from_index (zero ∷ xs) (suc i) short here before = omega (arith, lead_from_index xs i (omega arith) here (λ k h. before (suc k) (omega arith)))
lead_from_index (suc x ∷ xs) zero short here before = lead-other x xs
lead_from_index (suc x ∷ xs) (suc i) short here before = let e : suc x ≡ 0 = before 0 (omega arith) in absurd (omega arith)

-- the lead isn't before a position below which all words are 0
pub lead-after : (xs : List ℕ) (i : ℕ) → i ≤ length xs → ((k : ℕ) → k < i → get_or xs k 0 ≡ 0) → i ≤ lead xs
lead-after xs zero short zeros = omega arith
lead-after [] (suc i) short zeros = absurd (omega arith)
lead-after (zero ∷ xs) (suc i) short zeros = omega (arith, lead-after xs i (omega arith) (λ k h. zeros (suc k) (omega arith)))
lead-after (suc x ∷ xs) (suc i) short zeros = let e : suc x ≡ 0 = zeros 0 (omega arith) in absurd (omega arith)

-- all words are 0 exactly where the lead is past the end
pub lead-zeros : (n : ℕ) → lead (replicate n 0) ≡ n
lead-zeros zero = refl
lead-zeros (suc n) = omega (arith, lead-zeros n)

pub zeros_from_lead : (n : ℕ) (xs : List ℕ) → length xs ≡ n → n ≤ lead xs → xs ≡ replicate n 0
zeros_from_lead zero [] long past = refl
zeros_from_lead zero (x ∷ xs) long past = absurd (omega arith)
zeros_from_lead (suc n) [] long past = absurd (omega arith)
zeros_from_lead (suc n) (zero ∷ xs) long past = ap (λ ys. 0 ∷ ys) (zeros_from_lead n xs (omega arith) (omega arith))
zeros_from_lead (suc n) (suc x ∷ xs) long past = absurd (omega (arith, lead-other x xs))

-- the leads of sums and multiples: not before those of their parts
pub sum_zeros : (x c y : ℕ) → x ≡ 0 → y ≡ 0 → word (x + c * y) ≡ 0
sum_zeros x c y first second = ap word (let m = ap (λ (n : ℕ). c * n) second in let s : x + c * y ≡ 0 = omega arith in s)

plus_below : (c : ℕ) (xs ys : List ℕ) (i : ℕ) → length xs ≡ length ys → i ≤ lead xs → i ≤ lead ys
    → (k : ℕ) → k < i → get_or (words_of (plus c xs ys)) k 0 ≡ 0
plus_below c xs ys i e first second k h =
    get_or-wrapped_plus c xs ys k e
    ∙ sum_zeros _ c _ (get_or_before_lead xs k (omega arith)) (get_or_before_lead ys k (omega arith))

pub lead-plus : (c : ℕ) (xs ys : List ℕ) (i : ℕ) → length xs ≡ length ys → i ≤ lead xs → i ≤ lead ys
    → i ≤ lead (words_of (plus c xs ys))
lead-plus c xs ys i e first second =
    lead-after (words_of (plus c xs ys)) i (omega (arith, length-wrapped_plus c xs ys e, lead-le xs)) (plus_below c xs ys i e first second)

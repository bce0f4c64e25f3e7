-- Masks of the chunks that have a word that isn't 0.
use Rattle.std.proofs.Common.{◌≡◌, ◌≢◌, ℕ, zero, suc, ◌+◌, ◌-◌, ◌*◌, ◌/◌, ◌%◌, ◌^◌, ◌<◌, ◌≤◌, min, bit_and, bit_or, w64, List, [], ◌∷◌, length, get_or, take, drop, set, replicate, refl, ap, sym, ◌∙◌, subst, arith, inl, inr}
use Rattle.std.proofs.Math.Nat.{pow-suc, mod-eq_of_lt}
use lib.Pow.{pow_mono}
use Rattle.std.proofs.lemmas.Bool.{cases_lt, cases_eq, eq-eqb, ne_eqb}
use Rattle.std.proofs.lemmas.List.{drop-drop, drop-replicate, get_or-take, get_or-drop, length-drop, length-replicate, length-take, length-set, get_or-set_other, take_all}
use Rattle.std.proofs.lemmas.Simd.{get_or-chunk}
use Rattle.std.proofs.lemmas.Nat.Bits.{bit_at_lowest, bit_at-suc, bit_at_and, bit_at_or, bit_at_ones, bit_at-zero, bit_at_set_same, bit_at_set_other, bit_at-trailing_zeros}
use Rattle.std.specs.Int.{bit_at, trailing_zeros}
use Rattle.std.specs.Simd.Lanes.{chunk}
use Rattle.word_rows.specs.Words.{word}
use Rattle.word_rows.specs.Rows.{lead, plus, times, words_of}
use Rattle.word_rows.specs.Masks.{other, others, mask_of, Covers}
use Rattle.word_rows.proofs.Leads.{get_or_past}
use Rattle.word_rows.proofs.Blocks.{lead_in_chunk}
use Rattle.word_rows.proofs.Laws.{lead-le, lead-after, lead-zeros, get_or_before_lead, lead_from_index, get_or-wrapped_plus, get_or-wrapped_times, length-wrapped_plus, length-wrapped_times, sum_zeros}

-- a chunk's bit
pub other_none : (xs : List ℕ) → length xs ≤ lead xs → other xs ≡ 0
other_none xs none = rw (eq-eqb (lead xs) (length xs) (omega (arith, lead-le xs))) refl

pub other_some : (xs : List ℕ) → lead xs < length xs → other xs ≡ 1
other_some xs some = rw (ne_eqb (lead xs) (length xs) (λ e. omega arith)) refl

pub other_bit : (xs : List ℕ) → other xs < 2
other_bit xs = elim (cases_lt (lead xs) (length xs)) [ inl some ↦ omega (arith, other_some xs some) | inr none ↦ omega (arith, other_none xs none) ]

pub lead_of_other : (xs : List ℕ) → other xs ≡ 1 → lead xs < length xs
lead_of_other xs is = elim (cases_lt (lead xs) (length xs)) [ inl some ↦ some | inr none ↦ absurd (omega (arith, other_none xs none)) ]

pub no_lead_of_other : (xs : List ℕ) → other xs ≡ 0 → length xs ≤ lead xs
no_lead_of_other xs is = elim (cases_lt (lead xs) (length xs)) [ inl some ↦ absurd (omega (arith, other_some xs some)) | inr none ↦ none ]

next_chunk : (j : ℕ) (xs : List ℕ) → chunk (8 * j) 8 (drop 8 xs) ≡ chunk (8 * suc j) 8 xs
next_chunk j xs = ap (take 8) (drop-drop (8 * j) 8 xs ∙ ap (λ n. drop n xs) (let e : 8 + 8 * j ≡ 8 * suc j = omega arith in e))

-- each bit of a mask is that of its chunk
pub bit_of_others : (n j : ℕ) (xs : List ℕ) → j < n → bit_at (others n xs) j ≡ other (chunk (8 * j) 8 xs)
unfolding others
bit_of_others zero j xs below = absurd (omega arith)
bit_of_others (suc n) zero xs below = omega (arith, bit_at_lowest (others (suc n) xs), other_bit (take 8 xs))
bit_of_others (suc n) (suc j) xs below =
    let half : others (suc n) xs / 2 ≡ others n (drop 8 xs) = omega (arith, other_bit (take 8 xs)) in
    bit_at-suc (others (suc n) xs) j ∙ ap (λ m. bit_at m j) half ∙ bit_of_others n j (drop 8 xs) (omega arith) ∙ ap other (next_chunk j xs)

-- the mask of one chunk more
pub others_more : (n : ℕ) (xs : List ℕ) → others (suc n) xs ≡ others n xs + other (chunk (8 * n) 8 xs) * 2 ^ n
unfolding others
others_more zero xs = omega arith
others_more (suc n) xs =
    let h = others_more n (drop 8 xs) in
    let e = ap (λ (ys : List ℕ). other ys * 2 ^ suc n) (next_chunk n xs) in
    let p = ap (λ (t : ℕ). other (chunk (8 * n) 8 (drop 8 xs)) * t) (pow-suc 2 n) in
    omega (arith, h, e, p)

pub others-lt : (n : ℕ) (xs : List ℕ) → others n xs < 2 ^ n
unfolding others
others-lt zero xs = omega arith
others-lt (suc n) xs = omega (arith, others-lt n (drop 8 xs), other_bit (take 8 xs), pow-suc 2 n)

-- no chunk comes after the last word
others_nothing : (n : ℕ) → others n [] ≡ 0
unfolding others
others_nothing zero = refl
others_nothing (suc n) = omega (arith, others_nothing n, other_none [] (omega arith))

pub others_end : (m n : ℕ) (xs : List ℕ) → length xs ≤ 8 * m → m ≤ n → others n xs ≡ others m xs
unfolding others
others_end zero n [] short le = others_nothing n
others_end zero n (x ∷ xs) short le = absurd (omega arith)
others_end (suc m) zero xs short le = absurd (omega arith)
others_end (suc m) (suc n) xs short le =
    ap (λ k. other (take 8 xs) + 2 * k) (others_end m n (drop 8 xs) (omega (arith, length-drop 8 xs)) (omega arith))

-- what a mask tells of a word
index_in_chunk : (k : ℕ) (xs : List ℕ) → get_or (chunk (8 * (k / 8)) 8 xs) (k % 8) 0 ≡ get_or xs k 0
index_in_chunk k xs =
    let e : 8 * (k / 8) + k % 8 ≡ k = omega arith in
    get_or-take 8 (drop (8 * (k / 8)) xs) (k % 8) 0 (omega arith) ∙ get_or-drop (8 * (k / 8)) xs (k % 8) 0 ∙ ap (λ i. get_or xs i 0) e

zero_past_lead : (xs : List ℕ) (k : ℕ) → length xs ≤ lead xs → get_or xs k 0 ≡ 0
zero_past_lead xs k none = elim (cases_lt k (length xs)) [
  | inl inside ↦ get_or_before_lead xs k (omega arith)
  | inr past ↦ get_or_past xs k past
]

pub mask_covers : (xs : List ℕ) → length xs ≤ 512 → Covers (mask_of xs) xs
mask_covers xs short k inside none =
    let j = k / 8 in
    let is = bit_of_others 64 j xs (omega arith) in
    sym (index_in_chunk k xs) ∙ zero_past_lead (chunk (8 * j) 8 xs) (k % 8) (no_lead_of_other (chunk (8 * j) 8 xs) (sym is ∙ none))

pub kept_covers : (m : ℕ) (xs : List ℕ) → length xs ≤ 512 → m ≡ mask_of xs → Covers m xs
kept_covers m xs short is = subst (λ n. Covers n xs) (sym is) (mask_covers xs short)

pub all_cover : (xs : List ℕ) → length xs ≤ 512 → Covers (2 ^ 64 - 1) xs
all_cover xs short k inside none = absurd (omega (arith, bit_at_ones 64 (k / 8) (omega arith)))

-- masks of sums, of multiples and of a row with a word set
pub plus_covers : (a b c : ℕ) (xs ys : List ℕ) → length xs ≡ length ys → Covers a xs → Covers b ys → Covers (bit_or a b) (words_of (plus c xs ys))
plus_covers a b c xs ys same x y k inside none =
    let e = bit_at_or a b (k / 8) in
    let long = length-wrapped_plus c xs ys same in
    get_or-wrapped_plus c xs ys k same ∙ sum_zeros _ c _ (x k (omega arith) (omega arith)) (y k (omega arith) (omega arith))

pub times_cover : (a c : ℕ) (xs : List ℕ) → Covers a xs → Covers a (words_of (times c xs))
times_cover a c xs x k inside none =
    let long = length-wrapped_times c xs in
    get_or-wrapped_times c xs k ∙ ap word (let m = ap (λ (n : ℕ). c * n) (x k (omega arith) none) in let e : c * get_or xs k 0 ≡ 0 = omega arith in e)

pub products_covered : (a b : ℕ) (xs ys : List ℕ) → length xs ≡ length ys → Covers a xs → Covers b ys
    → (k : ℕ) → k < length xs → bit_at (bit_and a b) (k / 8) ≡ 0 → get_or xs k 0 * get_or ys k 0 ≡ 0
products_covered a b xs ys same x y k inside none = elim (cases_eq (bit_at a (k / 8)) 0) [
  | inl e ↦ let z = ap (λ (n : ℕ). n * get_or ys k 0) (x k inside e) in omega arith
  | inr ne ↦
      let e = bit_at_and a b (k / 8) in
      let z = ap (λ (n : ℕ). get_or xs k 0 * n) (y k (omega arith) (omega arith)) in
      omega arith
]

zeros_have_no_other : (n : ℕ) → other (replicate n 0) ≡ 0
zeros_have_no_other n = other_none (replicate n 0) (omega (arith, lead-zeros n, length-replicate {A = ℕ} n 0))

take_zeros : (n m : ℕ) → take {A = ℕ} n (replicate m 0) ≡ replicate (min n m) 0
take_zeros zero m = ap (λ k. replicate k 0) (let e : 0 ≡ min 0 m = omega arith in e)
take_zeros (suc n) zero = ap (λ k. replicate k 0) (let e : 0 ≡ min (suc n) 0 = omega arith in e)
take_zeros (suc n) (suc m) =
    ap (λ xs. 0 ∷ xs) (take_zeros n m) ∙ ap (λ k. replicate k 0) (let e : suc (min n m) ≡ min (suc n) (suc m) = omega arith in e)

others_of_zeros : (n m : ℕ) → others n (replicate m 0) ≡ 0
unfolding others
others_of_zeros zero m = refl
others_of_zeros (suc n) m = omega (
  arith,
  others_of_zeros n (m - 8),
  zeros_have_no_other (min 8 m),
  ap (others n) (drop-replicate 8 m 0),
  ap other (take_zeros 8 m),
)

pub mask_of_zeros : (n : ℕ) → mask_of (replicate n 0) ≡ 0
mask_of_zeros n = others_of_zeros 64 n

pub set_covers : (m i w : ℕ) (xs : List ℕ) → length xs ≤ 512 → i < length xs → Covers m xs
    → Covers (bit_or m (1 * 2 ^ (i / 8) % 2 ^ 64)) (set xs i w)
set_covers m i w xs short within x k inside none = elim (cases_eq (k / 8) (i / 8)) [
  | inl e ↦ absurd (let is = bit_at_set_same w64 m (i / 8) (omega arith) in let at = ap (bit_at (bit_or m (1 * 2 ^ (i / 8) % 2 ^ 64))) e in omega arith)
  | inr ne ↦
      let is = bit_at_set_other w64 m (i / 8) (omega arith) (k / 8) ne in
      get_or-set_other xs i k w 0 (λ e. ne (ap (λ (n : ℕ). n / 8) e)) ∙ x k (omega (arith, length-set xs i w)) (sym is ∙ none)
]

-- the mask so far, and the next chunk
pub no_chunk : (xs : List ℕ) → 0 ≡ others 0 xs
unfolding others
no_chunk xs = refl

pub bit_below : (k : ℕ) → k < 64 → 1 * 2 ^ k % 2 ^ 64 ≡ 2 ^ k
bit_below k below =
    mod-eq_of_lt (let p = pow_mono {i = suc k} {j = 64} (omega arith) in omega (arith, pow-suc 2 k)) ∙ (let e : 1 * 2 ^ k ≡ 2 ^ k = omega arith in e)

pub mask_grows : (n m : ℕ) (xs : List ℕ) → n < 64 → m ≡ others n xs → m + 1 * 2 ^ n % 2 ^ 64 < 2 ^ 64
mask_grows n m xs below is =
    let p = pow_mono {i = suc n} {j = 64} (omega arith) in
    omega (arith, bit_below n below, others-lt n xs, pow-suc 2 n)

pub mask_with : (n m : ℕ) (xs : List ℕ) → n < 64 → m ≡ others n xs → lead (chunk (8 * n) 8 xs) < length (chunk (8 * n) 8 xs)
    → m + 1 * 2 ^ n % 2 ^ 64 ≡ others (suc n) xs
mask_with n m xs below is some =
    let o = ap (λ (t : ℕ). t * 2 ^ n) (other_some (chunk (8 * n) 8 xs) some) in
    omega (arith, bit_below n below, others_more n xs, o)

pub mask_without : (n m : ℕ) (xs : List ℕ) → m ≡ others n xs → length (chunk (8 * n) 8 xs) ≤ lead (chunk (8 * n) 8 xs) → m ≡ others (suc n) xs
mask_without n m xs is none =
    let o = ap (λ (t : ℕ). t * 2 ^ n) (other_none (chunk (8 * n) 8 xs) none) in
    omega (arith, others_more n xs, o)

pub uncovered : (n m : ℕ) (xs : List ℕ) → Covers m xs → bit_at m n ≡ 0 → length (chunk (8 * n) 8 xs) ≤ lead (chunk (8 * n) 8 xs)
uncovered n m xs covers none =
    let ys = chunk (8 * n) 8 xs in
    lead-after ys (length ys) (omega arith) (λ k below.
    let long = length-take 8 (drop (8 * n) xs) in
    let size = length-drop (8 * n) xs in
    let at : (8 * n + k) / 8 ≡ n = omega arith in
    get_or-chunk (8 * n) 8 xs k 0 (omega arith) ∙ covers (8 * n + k) (omega arith) (ap (bit_at m) at ∙ none))

-- the last chunk, which may have fewer words
last_chunk : (n : ℕ) (xs : List ℕ) → length xs ≤ 8 * n + 8 → chunk (8 * n) 8 xs ≡ drop (8 * n) xs
last_chunk n xs end = take_all 8 (drop (8 * n) xs) (omega (arith, length-drop (8 * n) xs))

pub mask_ends_with : (n m at : ℕ) (xs : List ℕ) → length xs ≤ 512 → length xs ≤ 8 * n + 8 → m ≡ others n xs
    → at ≡ 8 * n + lead (drop (8 * n) xs) → at < length xs → m + 1 * 2 ^ n % 2 ^ 64 ≡ mask_of xs
mask_ends_with n m at xs short end is found inside =
    let e = last_chunk n xs end in
    let size = length-drop (8 * n) xs in
    mask_with n m xs (omega arith) is (rw e (omega arith)) ∙ sym (others_end (suc n) 64 xs (omega arith) (omega arith))

pub mask_ends_without : (n m at : ℕ) (xs : List ℕ) → length xs ≤ 512 → 8 * n ≤ length xs → length xs ≤ 8 * n + 8 → m ≡ others n xs
    → at ≡ 8 * n + lead (drop (8 * n) xs) → length xs ≤ at → m ≡ mask_of xs
mask_ends_without n m at xs short from end is found past = elim (cases_lt (8 * n) (length xs)) [
  | inl more ↦
      let e = last_chunk n xs end in
      let size = length-drop (8 * n) xs in
      mask_without n m xs is (rw e (omega arith)) ∙ sym (others_end (suc n) 64 xs (omega arith) (omega arith))
  | inr over ↦ is ∙ sym (others_end n 64 xs (omega arith) (omega arith))
]

-- the lead of a list is in the first chunk of its mask
pub record LeadsIn (xs : List ℕ) (j : ℕ) : Type 0 where
  pub inside : 8 * j < length xs
  pub is : lead xs ≡ 8 * j + lead (chunk (8 * j) 8 xs)

pub leads_in : (m : ℕ) (xs : List ℕ) → length xs ≤ 512 → m ≡ mask_of xs → m ≢ 0 → m < 2 ^ 64 → LeadsIn xs (trailing_zeros w64 m)
leads_in m xs short is some fits =
    let j = trailing_zeros w64 m in
    let t = bit_at-trailing_zeros w64 m (omega arith) fits in
    let ys = chunk (8 * j) 8 xs in
    let one : other ys ≡ 1 = sym (bit_of_others 64 j xs t.0) ∙ ap (λ n. bit_at n j) (sym is) ∙ t.1 in
    let here = lead_of_other ys one in
    let long = length-take 8 (drop (8 * j) xs) in
    let size = length-drop (8 * j) xs in
    record {
      inside = omega arith;
      is = lead_in_chunk j xs (λ k below. kept_covers m xs short is k (omega arith) (t.2 (k / 8) (omega arith))) here;
    }

pub lead_in_last : (at : ℕ) (xs : List ℕ) (j : ℕ) → LeadsIn xs j → length xs ≤ 8 * j + 8 → at ≡ 8 * j + lead (drop (8 * j) xs) → at ≡ lead xs
lead_in_last at xs j h end found = let e = ap lead (last_chunk j xs end) in omega (arith, e, h.is)

pub no_lead : (m : ℕ) (xs : List ℕ) → length xs ≤ 512 → m ≡ mask_of xs → m ≡ 0 → length xs ≡ lead xs
no_lead m xs short is none =
    let zeros : (k : ℕ) → k < length xs → get_or xs k 0 ≡ 0 = λ k below. kept_covers m xs short is k below (ap (λ n. bit_at n (k / 8)) none ∙ bit_at-zero (k / 8)) in
    omega (arith, lead-le xs, lead-after xs (length xs) (omega arith) zeros)

-- the lead behind a position
pub lead_of_drop : (at i : ℕ) (xs : List ℕ) → at ≤ i → i < length xs → get_or xs i 0 ≢ 0
    → ((k : ℕ) → at ≤ k → k < i → get_or xs k 0 ≡ 0) → i ≡ at + lead (drop at xs)
lead_of_drop at i xs from inside here zeros =
    let j = i - at in
    let e : at + j ≡ i = omega arith in
    let l = lead_from_index (drop at xs) j (omega (arith, length-drop at xs))
    (λ z. here (ap (λ n. get_or xs n 0) (sym e) ∙ sym (get_or-drop at xs j 0) ∙ z))
    (λ k below. get_or-drop at xs k 0 ∙ zeros (at + k) (omega arith) (omega arith)) in
    omega arith

pub lead_at_end : (at : ℕ) (xs : List ℕ) → at ≤ length xs → ((k : ℕ) → at ≤ k → k < length xs → get_or xs k 0 ≡ 0)
    → length xs ≡ at + lead (drop at xs)
lead_at_end at xs inside zeros =
    let ys = drop at xs in
    let z : (k : ℕ) → k < length ys → get_or ys k 0 ≡ 0 = λ k below. get_or-drop at xs k 0 ∙ zeros (at + k) (omega arith) (omega (arith, length-drop at xs)) in
    omega (arith, length-drop at xs, lead-le ys, lead-after ys (length ys) (omega arith) z)

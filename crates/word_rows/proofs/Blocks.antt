-- Lists that are worked off eight words at a time.
use Rattle.std.proofs.Common.{◌≡◌, ℕ, zero, suc, ◌+◌, ◌-◌, ◌*◌, ◌/◌, ◌^◌, ◌<◌, ◌≤◌, List, [], ◌∷◌, length, get_or, take, drop, refl, ap, ap₂, sym, ◌∙◌, subst, arith, inl, inr}
use Rattle.std.proofs.Math.Nat.{mod-add-mod}
use Rattle.std.proofs.lemmas.Bool.{cases_lt}
use Rattle.std.proofs.lemmas.List.{drop-drop, length-drop, length-take}
use Rattle.std.specs.Int.{bit_at}
use Rattle.std.proofs.lemmas.Simd.{length-chunk, get_or-chunk, get_or-put_chunk_below, get_or-put_chunk_at, get_or-put_chunk_above}
use Rattle.std.specs.Simd.Lanes.{chunk, put_chunk}
use Rattle.word_rows.specs.Words.{word}
use Rattle.word_rows.specs.Rows.{words_of, dot_sum, plus, times, lead}
use Rattle.word_rows.specs.Masks.{Covers}
use Rattle.word_rows.proofs.Leads.{get_or_past}
use Rattle.word_rows.proofs.Laws.{get_or-words_of, length-wrapped_plus, length-wrapped_times, get_or-wrapped_plus, get_or-wrapped_times, get_or_before_lead, get_or_at_lead, lead_from_index, dot_sum_comm}

-- the words below `at` are those that f gives, and the others are the old ones
pub record DoneTo (f : ℕ → ℕ) (at : ℕ) (old now : List ℕ) : Type 0 where
  pub done : (k : ℕ) → k < at → get_or now k 0 ≡ f k
  pub untouched : (k : ℕ) → at ≤ k → get_or now k 0 ≡ get_or old k 0

pub eight_done : (f : ℕ → ℕ) (at : ℕ) (old now ys : List ℕ) → DoneTo f at old now → at + 8 ≤ length now → length ys ≡ 8
    → ((j : ℕ) → j < 8 → get_or ys j 0 ≡ f (at + j)) → DoneTo f (at + 8) old (put_chunk at now ys)
eight_done f at old now ys so_far room long is = record {
  done = λ k below. elim (cases_lt k at) [
    | inl before ↦ get_or-put_chunk_below at now ys k 0 before ∙ so_far.done k before
    | inr after ↦
        let j = k - at in
        let e : at + j ≡ k = omega arith in
        subst (λ i. get_or (put_chunk at now ys) i 0 ≡ f i) e (get_or-put_chunk_at at now ys j 0 (omega arith) (omega arith) ∙ is j (omega arith))
  ];
  untouched = λ k from. get_or-put_chunk_above at now ys k 0 (omega arith) ∙ so_far.untouched k (omega arith);
}

next_eight : (f : ℕ → ℕ) (b : ℕ) (old now : List ℕ) → DoneTo f (8 * b + 8) old now → DoneTo f (8 * (b + 1)) old now
next_eight f b old now = subst (λ n. DoneTo f n old now) (omega arith)

-- eight words of a sum, and of a multiple
pub plus_done : (c b : ℕ) (old now ys after : List ℕ) → length old ≡ length ys → length now ≡ length old → 8 * b + 8 ≤ length ys
    → DoneTo (λ k. word (get_or old k 0 + c * get_or ys k 0)) (8 * b) old now
    → after ≡ put_chunk (8 * b) now (words_of (plus c (chunk (8 * b) 8 now) (chunk (8 * b) 8 ys)))
    → DoneTo (λ k. word (get_or old k 0 + c * get_or ys k 0)) (8 * (b + 1)) old after
plus_done c b old now ys after same long room so_far is =
    let at = 8 * b in
    let f : ℕ → ℕ = λ k. word (get_or old k 0 + c * get_or ys k 0) in
    let here = length-chunk at 8 now (omega arith) in
    let there = length-chunk at 8 ys room in
    let equal = here ∙ sym there in
    rw is (next_eight f b old _ (eight_done f at old now (words_of (plus c (chunk at 8 now) (chunk at 8 ys))) so_far (omega arith)
    (length-wrapped_plus c (chunk at 8 now) (chunk at 8 ys) equal ∙ here)
    (λ j below.
    let x = get_or-chunk at 8 now j 0 below ∙ so_far.untouched (at + j) (omega arith) in
    let y = get_or-chunk at 8 ys j 0 below in
    get_or-wrapped_plus c (chunk at 8 now) (chunk at 8 ys) j equal ∙ (λ i. word (x i + c * y i)))))

pub times_done : (c b : ℕ) (old now after : List ℕ) → length now ≡ length old → 8 * b + 8 ≤ length now
    → DoneTo (λ k. word (c * get_or old k 0)) (8 * b) old now
    → after ≡ put_chunk (8 * b) now (words_of (times c (chunk (8 * b) 8 now)))
    → DoneTo (λ k. word (c * get_or old k 0)) (8 * (b + 1)) old after
times_done c b old now after long room so_far is =
    let at = 8 * b in
    let f : ℕ → ℕ = λ k. word (c * get_or old k 0) in
    let here = length-chunk at 8 now room in
    rw is (next_eight f b old _ (eight_done f at old now (words_of (times c (chunk at 8 now))) so_far room
    (length-wrapped_times c (chunk at 8 now) ∙ here)
    (λ j below.
    let x = get_or-chunk at 8 now j 0 below ∙ so_far.untouched (at + j) (omega arith) in
    get_or-wrapped_times c (chunk at 8 now) j ∙ (λ i. word (c * x i)))))

-- eight words that stay as they are
skipped : (f : ℕ → ℕ) (b : ℕ) (old now : List ℕ) → DoneTo f (8 * b) old now
    → ((k : ℕ) → k / 8 ≡ b → get_or old k 0 ≡ f k) → DoneTo f (8 * (b + 1)) old now
skipped f b old now so_far same = record {
  done = λ k below. elim (cases_lt k (8 * b)) [
    | inl before ↦ so_far.done k before
    | inr after ↦ so_far.untouched k after ∙ same k (omega arith)
  ];
  untouched = λ k from. so_far.untouched k (omega arith);
}

pub plus_skipped : (c b m : ℕ) (old now ys : List ℕ) → words_of old ≡ old → 8 * b + 8 ≤ length ys → Covers m ys → bit_at m b ≡ 0
    → DoneTo (λ k. word (get_or old k 0 + c * get_or ys k 0)) (8 * b) old now
    → DoneTo (λ k. word (get_or old k 0 + c * get_or ys k 0)) (8 * (b + 1)) old now
plus_skipped c b m old now ys fits room covers none so_far =
    skipped _ b old now so_far (λ k at.
    let x = get_or old k 0 in
    let z = ap (λ (n : ℕ). c * n) (covers k (omega arith) (ap (bit_at m) at ∙ none)) in
    sym (sym (get_or-words_of old k) ∙ ap (λ xs. get_or xs k 0) fits)
    ∙ ap word (let e : x ≡ x + c * get_or ys k 0 = omega arith in e))

pub times_skipped : (c b m : ℕ) (old now : List ℕ) → 8 * b + 8 ≤ length old → Covers m old → bit_at m b ≡ 0
    → DoneTo (λ k. word (c * get_or old k 0)) (8 * b) old now
    → DoneTo (λ k. word (c * get_or old k 0)) (8 * (b + 1)) old now
times_skipped c b m old now room covers none so_far =
    skipped _ b old now so_far (λ k at.
    let zero = covers k (omega arith) (ap (bit_at m) at ∙ none) in
    let z = ap (λ (n : ℕ). c * n) zero in
    zero ∙ ap word (let e : 0 ≡ c * get_or old k 0 = omega arith in e))

-- the sum of products from a position on: that of eight words, and that of what follows
dot_sum-split : (n : ℕ) (xs ys : List ℕ) → dot_sum xs ys ≡ dot_sum (take n xs) (take n ys) + dot_sum (drop n xs) (drop n ys)
dot_sum-split zero xs ys = omega arith
dot_sum-split (suc n) [] ys = refl
dot_sum-split (suc n) (x ∷ xs) [] = omega (arith, dot_sum_comm (drop n xs) [])
dot_sum-split (suc n) (x ∷ xs) (y ∷ ys) = omega (arith, dot_sum-split n xs ys)

pub products_more : (s t b r : ℕ) (xs ys : List ℕ) → word t ≡ word (s + dot_sum (chunk (8 * b) 8 xs) (chunk (8 * b) 8 ys))
    → word (s + dot_sum (drop (8 * b) xs) (drop (8 * b) ys)) ≡ r
    → word (t + dot_sum (drop (8 * (b + 1)) xs) (drop (8 * (b + 1)) ys)) ≡ r
products_more s t b r xs ys is so_far =
    let at = 8 * b in
    let e : 8 * (b + 1) ≡ at + 8 = omega arith in
    let here = dot_sum (chunk at 8 xs) (chunk at 8 ys) in
    let rest = dot_sum (drop (at + 8) xs) (drop (at + 8) ys) in
    let split = dot_sum-split 8 (drop at xs) (drop at ys) in
    let tail = ap₂ dot_sum (drop-drop 8 at xs) (drop-drop 8 at ys) in
    ap (λ n. word (t + dot_sum (drop n xs) (drop n ys))) e
    ∙ sym (mod-add-mod t (2 ^ 64) rest) ∙ ap (λ n. word (n + rest)) is ∙ mod-add-mod (s + here) (2 ^ 64) rest
    ∙ ap word (let f : s + here + rest ≡ s + dot_sum (drop at xs) (drop at ys) = omega (arith, split, tail) in f) ∙ so_far

dot_sum_nothing : (xs ys : List ℕ) → ((k : ℕ) → get_or xs k 0 * get_or ys k 0 ≡ 0) → dot_sum xs ys ≡ 0
dot_sum_nothing [] ys zeros = refl
dot_sum_nothing (x ∷ xs) [] zeros = refl
dot_sum_nothing (x ∷ xs) (y ∷ ys) zeros = omega (arith, zeros 0, dot_sum_nothing xs ys (λ k. zeros (suc k)))

pub products_skipped : (s b m r : ℕ) (xs ys : List ℕ) → 8 * b + 8 ≤ length xs → 8 * b + 8 ≤ length ys
    → ((k : ℕ) → k < length xs → bit_at m (k / 8) ≡ 0 → get_or xs k 0 * get_or ys k 0 ≡ 0) → bit_at m b ≡ 0
    → word (s + dot_sum (drop (8 * b) xs) (drop (8 * b) ys)) ≡ r
    → word (s + dot_sum (drop (8 * (b + 1)) xs) (drop (8 * (b + 1)) ys)) ≡ r
products_skipped s b m r xs ys room there zeros none so_far =
    products_more s s b r xs ys (ap word (let e : s ≡ s + dot_sum us vs = omega (arith, dot_sum_nothing us vs each) in e)) so_far
  where
    us : List ℕ
    us = chunk (8 * b) 8 xs

    vs : List ℕ
    vs = chunk (8 * b) 8 ys

    each : (k : ℕ) → get_or us k 0 * get_or vs k 0 ≡ 0
    each k = elim (cases_lt k 8) [
      | inl below ↦
          let at : (8 * b + k) / 8 ≡ b = omega arith in
          ap₂ (λ (x y : ℕ). x * y) (get_or-chunk (8 * b) 8 xs k 0 below) (get_or-chunk (8 * b) 8 ys k 0 below)
          ∙ zeros (8 * b + k) (omega arith) (ap (bit_at m) at ∙ none)
      | inr past ↦
          let z = ap (λ (n : ℕ). n * get_or vs k 0) (get_or_past us k (omega (arith, length-chunk (8 * b) 8 xs room))) in omega arith
    ]

-- the sum of the sums, and the products that are left
pub products_left : (s t b w r : ℕ) (xs ys : List ℕ) → t ≡ word (0 + s) → b ≡ w
    → word (s + dot_sum (drop (8 * b) xs) (drop (8 * b) ys)) ≡ r → word (t + dot_sum (drop (8 * w) xs) (drop (8 * w) ys)) ≡ r
products_left s t b w r xs ys is same so_far =
    let rest = dot_sum (drop (8 * w) xs) (drop (8 * w) ys) in
    ap (λ n. word (n + rest)) is ∙ mod-add-mod (0 + s) (2 ^ 64) rest ∙ ap word (let e : 0 + s + rest ≡ s + rest = omega arith in e)
    ∙ subst (λ n. word (s + dot_sum (drop (8 * n) xs) (drop (8 * n) ys)) ≡ r) same so_far

-- the lead of a chunk is that of the list, where all before are 0
pub lead_in_chunk : (b : ℕ) (xs : List ℕ) → ((k : ℕ) → k < 8 * b → get_or xs k 0 ≡ 0)
    → lead (chunk (8 * b) 8 xs) < length (chunk (8 * b) 8 xs) → lead xs ≡ 8 * b + lead (chunk (8 * b) 8 xs)
lead_in_chunk b xs before here =
    let at = 8 * b in
    let ys = chunk at 8 xs in
    let long = length-take 8 (drop at xs) in
    let size = length-drop at xs in
    lead_from_index xs (at + lead ys) (omega arith)
    (λ z. get_or_at_lead ys here (get_or-chunk at 8 xs (lead ys) 0 (omega arith) ∙ z))
    (λ k below. elim (cases_lt k at) [
      | inl earlier ↦ before k earlier
      | inr later ↦
          let j = k - at in
          let e : at + j ≡ k = omega arith in
          subst (λ i. get_or xs i 0 ≡ 0) e (sym (get_or-chunk at 8 xs j 0 (omega arith)) ∙ get_or_before_lead ys j (omega arith))
    ])

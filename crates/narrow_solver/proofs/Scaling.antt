-- 2^32 times the rows of a narrow basis are a leading-position basis.
use Rattle.std.proofs.Common.{◌≡◌, ℕ, ◌+◌, ◌-◌, ◌*◌, ◌^◌, ◌<◌, inl, inr, List, [], ◌∷◌, length, slice_index, map, Contains, ap, sym, ◌∙◌, arith}
use Rattle.std.proofs.lemmas.Nat.{pow_pos, pow-add}
use Rattle.std.proofs.lemmas.List.Elements.{All-weaker, All-contains, All-contains_itself}
use Rattle.word_rows.specs.Rows.{words_of, plus, times, lead, pivot, IsRow}
use Rattle.word_rows.proofs.Laws.{words_of-words_of, words_of-times, words_of-plus_first, words_of-plus_second, plus-times, times-plus, times-times, lead_from_index, get_or_before_lead}
use Rattle.row_modules.specs.Modules.{AreRows, IsCombination}
use Rattle.row_modules.specs.Maps.{IsLinear}
use Rattle.row_modules.specs.Bases.{IsLeadingBasis, IsReduced}
use Rattle.row_modules.proofs.Laws.{combinations, generator, mapped_into, contains_first, contains_later, first_or_later, nothing_contained}
use Rattle.narrow_solver.specs.Narrow.{narrowed, scaled, IsNarrowRow, IsNarrowCombination, IsNarrowBasis}
use Rattle.narrow_solver.proofs.Narrowing.{words_of-narrowed, scaled-narrowed, index_of_scaled, length-scaled}

pub scaled_row : (n : ℕ) (v : List ℕ) → length v ≡ n → IsRow n (scaled v)
scaled_row n v e = record { width = length-scaled v ∙ e; words = words_of-words_of (times (2 ^ 32) v) }

pub narrow_is_row : (n : ℕ) (v : List ℕ) → IsNarrowRow n v → IsRow n v
narrow_is_row n v row = record {
  width = row.width;
  words = ap words_of (sym row.words) ∙ words_of-narrowed v ∙ row.words;
}

-- multiplying by 2^32 is linear
pub scaled_linear : (n : ℕ) → IsLinear n n scaled
scaled_linear n = record {
  rows = λ v r. scaled_row n v r.width;
  sum = λ c v w p q.
      let k : 2 ^ 32 * c ≡ c * 2 ^ 32 = omega arith in
      words_of-times (2 ^ 32) (plus c v w) ∙ ap words_of (times-plus (2 ^ 32) c v w)
      ∙ ap (λ (x : ℕ). words_of (plus x (times (2 ^ 32) v) w)) k
      ∙ ap words_of (sym (plus-times c (2 ^ 32) (times (2 ^ 32) v) w))
      ∙ sym (words_of-plus_first c (times (2 ^ 32) v) (times (2 ^ 32) w)) ∙ sym (words_of-plus_second c (scaled v) (times (2 ^ 32) w));
}

-- the rows of a mapped list
pub mapped_contains : (rows : List (List ℕ)) (v : List ℕ) → Contains rows v → Contains (map scaled rows) (scaled v)
mapped_contains [] v h = absurd (nothing_contained v h)
mapped_contains (row ∷ rest) v h = elim (first_or_later row rest v h) [
  | inl e ↦ rw e (contains_first (scaled row) (map scaled rest))
  | inr k ↦ contains_later (scaled row) (map scaled rest) (scaled v) (mapped_contains rest v k)
]

pub record IsScaledFrom (rows : List (List ℕ)) (v : List ℕ) : Type 0 where
  pub of : List ℕ
  pub there : Contains rows of
  pub is : v ≡ scaled of

pub mapped_from : (rows : List (List ℕ)) (v : List ℕ) → Contains (map scaled rows) v → IsScaledFrom rows v
mapped_from [] v h = absurd (nothing_contained v h)
mapped_from (row ∷ rest) v h = elim (first_or_later (scaled row) (map scaled rest) v h) [
  | inl e ↦ record { of = row; there = contains_first row rest; is = e }
  | inr k ↦ let f = mapped_from rest v k in record { of = f.of; there = contains_later row rest f.of f.there; is = f.is }
]

pub mapped_rows : (n : ℕ) (rows : List (List ℕ)) → AreRows n (Contains rows) → AreRows n (Contains (map scaled rows))
mapped_rows n rows are v h = let f = mapped_from rows v h in let e = f.is in rw e (scaled_row n f.of (are f.of f.there).width)

pub scaled_member : (n : ℕ) (rows : List (List ℕ)) → AreRows n (Contains rows) → (v : List ℕ) → IsCombination n (Contains rows) v → IsCombination n (Contains (map scaled rows)) (scaled v)
scaled_member n rows are v m =
    let wide = mapped_rows n rows are in
    mapped_into n n scaled (scaled_linear n) (Contains rows) (IsCombination n (Contains (map scaled rows))) are (combinations n (Contains (map scaled rows)) wide)
    (λ u h. generator n (Contains (map scaled rows)) wide (scaled u) (mapped_contains rows u h)) v m

-- a combination modulo 2^32, times 2^32
pub scaled_narrow_member : (n : ℕ) (rows : List (List ℕ)) → AreRows n (Contains rows) → (v : List ℕ) → IsNarrowCombination n (Contains rows) v → IsCombination n (Contains (map scaled rows)) (scaled v)
scaled_narrow_member n rows are v m =
    let e : scaled v ≡ scaled m.whole = ap scaled m.is ∙ scaled-narrowed m.whole in
    rw e (scaled_member n rows are m.whole m.combination)

pub narrow_rows : (n : ℕ) (rows : List (List ℕ)) → IsNarrowBasis n rows → (v : List ℕ) → Contains rows v → IsNarrowRow n v
narrow_rows n [] b v h = absurd (nothing_contained v h)
narrow_rows n (row ∷ rest) b v h = elim (first_or_later row rest v h) [ inl e ↦ rw e b.0.is_row | inr k ↦ narrow_rows n rest b.1 v k ]

pub narrow_basis_rows : (n : ℕ) (rows : List (List ℕ)) → IsNarrowBasis n rows → AreRows n (Contains rows)
narrow_basis_rows n rows b v h = narrow_is_row n v (narrow_rows n rows b v h)

pub record HasPivot (n : ℕ) (v : List ℕ) : Type 0 where
  pub is_row : IsNarrowRow n v
  pub within : lead v < n
  pub some : 0 < pivot v

pub with_pivots : (n : ℕ) (rows : List (List ℕ)) → IsNarrowBasis n rows → (v : List ℕ) → Contains rows v → HasPivot n v
with_pivots n [] b v h = absurd (nothing_contained v h)
with_pivots n (row ∷ rest) b v h = elim (first_or_later row rest v h) [
  | inl e ↦ rw e (record { is_row = b.0.is_row; within = b.0.within; some = let p = b.0.is_pivot in let s = pow_pos b.0.power in omega arith })
  | inr k ↦ with_pivots n rest b.1 v k
]

pub scaled_lead : (n : ℕ) (v : List ℕ) → HasPivot n v → lead (scaled v) ≡ lead v
scaled_lead n v h =
    let w = h.is_row.width in let l = length-scaled v in let i = h.within in let s = h.some in
    let here = index_of_scaled n v (lead v) h.is_row in
    lead_from_index (scaled v) (lead v) (omega arith) (λ z. omega arith)
    (λ k lt. let z = get_or_before_lead v k lt in let e = index_of_scaled n v k h.is_row in omega arith)

pub scaled_pivot : (n : ℕ) (v : List ℕ) → HasPivot n v → pivot (scaled v) ≡ 2 ^ 32 * pivot v
scaled_pivot n v h = ap (λ (k : ℕ). slice_index (scaled v) k) (scaled_lead n v h) ∙ index_of_scaled n v (lead v) h.is_row

scaled_closing : (n t : ℕ) (row : List ℕ) → t < 32 → words_of (times (2 ^ (64 - (32 + t))) (scaled row)) ≡ scaled (narrowed (times (2 ^ (32 - t)) row))
scaled_closing n t row small =
    let e : 64 - (32 + t) ≡ 32 - t = omega arith in
    let k : 2 ^ (32 - t) * 2 ^ 32 ≡ 2 ^ 32 * 2 ^ (32 - t) = omega arith in
    ap (λ (i : ℕ). words_of (times (2 ^ i) (scaled row))) e ∙ words_of-times (2 ^ (32 - t)) (times (2 ^ 32) row) ∙ ap words_of (times-times (2 ^ (32 - t)) (2 ^ 32) row)
    ∙ ap (λ (c : ℕ). words_of (times c row)) k ∙ ap words_of (sym (times-times (2 ^ 32) (2 ^ (32 - t)) row)) ∙ sym (scaled-narrowed (times (2 ^ (32 - t)) row))

pub scaled_basis : (n : ℕ) (rows : List (List ℕ)) → IsNarrowBasis n rows → IsLeadingBasis n (map scaled rows)
scaled_basis n [] b = b
scaled_basis n (row ∷ rest) b =
    let leads = b.0 in
    let own = with_pivots n (row ∷ rest) b row (contains_first row rest) in
    let same = scaled_lead n row own in
    let i = leads.within in let small = leads.small in (
      record {
        is_row = scaled_row n row leads.is_row.width;
        within = omega arith;
        power = 32 + leads.power;
        small = omega arith;
        is_pivot = scaled_pivot n row own ∙ ap (λ (x : ℕ). 2 ^ 32 * x) leads.is_pivot ∙ sym (pow-add 2 32 leads.power);
        later = All-weaker (Contains (map scaled rest)) (λ r. lead (scaled row) < lead r)
            (λ v h. let f = mapped_from rest v h in
            let l : lead row < lead f.of = All-contains (λ r. lead row < lead r) rest f.of leads.later f.there in
            let e : lead v ≡ lead f.of = ap lead f.is ∙ scaled_lead n f.of (with_pivots n rest b.1 f.of f.there) in omega arith)
            (map scaled rest) (All-contains_itself (map scaled rest));
        closing =
            let e = scaled_closing n leads.power row small in
            rw e (scaled_narrow_member n rest (narrow_basis_rows n rest b.1) (narrowed (times (2 ^ (32 - leads.power)) row)) leads.closing);
      },
      scaled_basis n rest b.1,
    )

pub scaled_reduced : (n : ℕ) (rows : List (List ℕ)) → IsNarrowBasis n rows → IsReduced rows → IsReduced (map scaled rows)
scaled_reduced n [] b r = r
scaled_reduced n (row ∷ rest) b r = (
  All-weaker (Contains (map scaled rest)) (λ x. slice_index (scaled row) (lead x) < pivot x)
      (λ v h.
      let f = mapped_from rest v h in
      let own = with_pivots n rest b.1 f.of f.there in
      let l : slice_index row (lead f.of) < pivot f.of = All-contains (λ x. slice_index row (lead x) < pivot x) rest f.of r.0 f.there in
      let e : slice_index (scaled row) (lead v) ≡ 2 ^ 32 * slice_index row (lead f.of) =
      ap (λ (k : ℕ). slice_index (scaled row) k) (ap lead f.is ∙ scaled_lead n f.of own) ∙ index_of_scaled n row (lead f.of) b.0.is_row in
      let p : pivot v ≡ 2 ^ 32 * pivot f.of = ap pivot f.is ∙ scaled_pivot n f.of own in omega arith)
      (map scaled rest) (All-contains_itself (map scaled rest)),
  scaled_reduced n rest b.1 r.1,
)

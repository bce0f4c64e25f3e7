-- Reduced bases whose module has 2^32 times the unit row of each visible position.
use Rattle.std.proofs.Common.{◌≡◌, ℕ, zero, suc, ◌+◌, ◌-◌, ◌*◌, ◌^◌, ◌<◌, ◌≤◌, inl, inr, List, [], ◌∷◌, slice_index, All, Contains, IsTrue, replicate, refl, ap, ap₂, sym, ◌∙◌, arith}
use Rattle.std.proofs.Math.Nat.{mod-eq_of_lt}
use Rattle.std.proofs.lemmas.Nat.{pow_pos, pow_below}
use Rattle.std.proofs.lemmas.Bool.{cases_eq, cases_lt}
use Rattle.std.proofs.lemmas.List.{get_or_past}
use Rattle.std.proofs.lemmas.Grind.{same_number_lists}
use Rattle.std.proofs.lemmas.List.Elements.{All-weaker, All-contains, All-contains_itself}
use Rattle.word_rows.specs.Words.{word}
use Rattle.word_rows.specs.Rows.{words_of, plus, lead, pivot, unit, IsRow}
use Rattle.word_rows.proofs.Laws.{lead_from_index, get_or_before_lead, lead-zeros, IsRow-unit, unit_at, unit_elsewhere}
use Rattle.row_modules.specs.Modules.{IsCombination}
use Rattle.row_modules.specs.Bases.{IsLeadingBasis, IsReduced}
use Rattle.row_modules.specs.Positions.{has, IsZeroOutside}
use Rattle.row_modules.proofs.Laws.{combination_sum, generator, contains_first, contains_later, first_or_later, nothing_contained, in_or_out}
use Rattle.lead_basis.proofs.Laws.{index_of_sum, index_of_multiple, take_back, basis_rows, pivot_divides, drop_first, empty_span, same_remainder, first_lead}
use Rattle.narrow_solver.specs.Narrow.{narrowed, scaled, IsNarrowRow}
use Rattle.narrow_solver.proofs.Narrowing.{length-narrowed, get_or-narrowed, narrowed-scaled}
use Rattle.narrow_solver.proofs.Scaling.{scaled_row}

-- the row with 2^32 at a position
pub column : ℕ → ℕ → List ℕ
column n i = scaled (unit n i)

pub column_is : (n i : ℕ) → column n i ≡ scaled (unit n i)
unfolding column
column_is n i = refl

pub column_row : (n i : ℕ) → IsRow n (column n i)
unfolding column
column_row n i = scaled_row n (unit n i) (IsRow-unit n i).width

pub column_at : (n i : ℕ) → i < n → slice_index (column n i) i ≡ 2 ^ 32
unfolding column
column_at n i below = index_of_multiple (2 ^ 32) (unit n i) i ∙ ap (λ (x : ℕ). word (2 ^ 32 * x)) (unit_at n i below)

pub column_elsewhere : (n i k : ℕ) → (k ≡ i → ⊥) → slice_index (column n i) k ≡ 0
unfolding column
column_elsewhere n i k ne = index_of_multiple (2 ^ 32) (unit n i) k ∙ ap (λ (x : ℕ). word (2 ^ 32 * x)) (unit_elsewhere n i k ne)

pub column_vanishes : (n i : ℕ) → narrowed (column n i) ≡ replicate n 0
unfolding column
column_vanishes n i = narrowed-scaled n (unit n i) (IsRow-unit n i).width

pub column_lead : (n i : ℕ) → i < n → lead (column n i) ≡ i
column_lead n i below =
    let w = (column_row n i).width in let h = column_at n i below in
    lead_from_index (column n i) i (omega arith) (λ z. omega arith) (λ k lt. column_elsewhere n i k (λ e. omega arith))

-- powers of two below a multiple
power_le : (a m t : ℕ) → a ≡ m * 2 ^ t → 0 < a → 2 ^ t ≤ a
power_le a zero t e some = absurd (let z : 0 * 2 ^ t ≡ 0 = omega arith in omega arith)
power_le a (suc m) t e some = let s : suc m * 2 ^ t ≡ m * 2 ^ t + 2 ^ t = omega arith in omega arith

-- a member that isn't zero has a row with its lead, whose pivot divides its own
pub record HasLeadRow (rows : List (List ℕ)) (v : List ℕ) : Type 0 where
  pub row : List ℕ
  pub there : Contains rows row
  pub same : lead row ≡ lead v
  pub power : ℕ
  pub is_pivot : pivot row ≡ 2 ^ power
  pub factor : ℕ
  pub divides : pivot v ≡ factor * 2 ^ power

pub lead_row : (n : ℕ) (rows : List (List ℕ)) → IsLeadingBasis n rows → (v : List ℕ) → IsCombination n (Contains rows) v → lead v < n → HasLeadRow rows v
lead_row n [] b v m below = absurd (let e = ap lead (empty_span n v m) ∙ lead-zeros n in omega arith)
lead_row n (row ∷ rest) b v m below =
    let f = first_lead n row rest b v m in
    let are = basis_rows n rest b.1 in
    elim (cases_eq (lead v) (lead row)) [
      | inl e ↦ let d = pivot_divides n row rest b.0 are v m in record {
        row = row;
        there = contains_first row rest;
        same = sym e;
        power = b.0.power;
        is_pivot = b.0.is_pivot;
        factor = d.0;
        divides = ap (λ (k : ℕ). slice_index v k) e ∙ d.1;
      }
      | inr ne ↦
          let lt : lead row < lead v = elim (cases_lt (lead row) (lead v)) [ inl l ↦ l | inr ge ↦ absurd (ne (omega arith)) ] in
          let h = lead_row n rest b.1 v (drop_first n row rest b.0 are v m (get_or_before_lead v (lead row) lt)) below in record {
            row = h.row;
            there = contains_later row rest h.row h.there;
            same = h.same;
            power = h.power;
            is_pivot = h.is_pivot;
            factor = h.factor;
            divides = h.divides;
          }
    ]

-- a reduced basis on the positions of s, with the multiples by 2^32 of the unit rows there, from position l on
pub record IsFull (n s l : ℕ) (rows : List (List ℕ)) : Type 0 where
  pub basis : IsLeadingBasis n rows
  pub reduced : IsReduced rows
  pub hidden : (r : List ℕ) → Contains rows r → IsZeroOutside s r
  pub above : (r : List ℕ) → Contains rows r → l ≤ lead r
  pub full : (k : ℕ) → l ≤ k → k < n → IsTrue (has s k) → IsCombination n (Contains rows) (column n k)

module _ (n s l : ℕ) (row : List ℕ) (rest : List (List ℕ)) (is : IsFull n s l (row ∷ rest)) where
  pub full_rest : IsFull n s (suc (lead row)) rest
  full_rest = record {
    basis = is.basis.1;
    reduced = is.reduced.1;
    hidden = λ r h. is.hidden r (contains_later row rest r h);
    above = λ r h. let l : lead row < lead r = All-contains (λ r. lead row < lead r) rest r is.basis.0.later h in omega arith;
    full = λ k le lt seen.
        let a = is.above row (contains_first row rest) in
        drop_first n row rest is.basis.0 (basis_rows n rest is.basis.1) (column n k) (is.full k (omega arith) lt seen) (column_elsewhere n k (lead row) (λ e. omega arith));
  }

  -- the lead is visible
  pub first_column : IsCombination n (Contains (row ∷ rest)) (column n (lead row))
  first_column =
      let b = is.basis.0 in
      elim (in_or_out s (lead row)) [
        | inl seen ↦ is.full (lead row) (is.above row (contains_first row rest)) b.within seen
        | inr out ↦ let z = is.hidden row (contains_first row rest) (lead row) out in let p = b.is_pivot in let q = pow_pos b.power in absurd (omega arith)
      ]

  pub small_power : is.basis.0.power ≤ 32
  small_power =
      let b = is.basis.0 in
      let d = pivot_divides n row rest b (basis_rows n rest is.basis.1) (column n (lead row)) first_column in
      let e : 2 ^ 32 ≡ d.0 * 2 ^ b.power = sym (column_at n (lead row) b.within) ∙ d.1 in
      let le = power_le (2 ^ 32) d.0 b.power e (pow_pos 32) in
      elim (cases_lt 32 b.power) [ inl lt ↦ absurd (let h = pow_below 32 b.power lt in omega arith) | inr ge ↦ ge ]

  -- away from the lead the words are below 2^32
  pub small_word : (k : ℕ) → (k ≡ lead row → ⊥) → slice_index row k < 2 ^ 32
  small_word k ne =
      let b = is.basis.0 in
      let w = b.is_row.width in
      elim (cases_lt k (lead row)) [
        | inl before ↦ let z = get_or_before_lead row k before in omega arith
        | inr ge ↦ elim (cases_lt k n) [
          | inr past ↦ let z = get_or_past row k 0 (omega arith) in omega arith
          | inl below ↦ elim (in_or_out s k) [
            | inr out ↦ let z = is.hidden row (contains_first row rest) k out in omega arith
            | inl seen ↦
                let own = column_lead n k below in
                let gt : suc (lead row) ≤ k = elim (cases_lt (lead row) k) [ inl lt ↦ omega arith | inr le ↦ absurd (ne (omega arith)) ] in
                let h = lead_row n rest is.basis.1 (column n k) (full_rest.full k gt below seen) (omega arith) in
                let r : slice_index row (lead h.row) < pivot h.row = All-contains (λ r. slice_index row (lead r) < pivot r) rest h.row is.reduced.0 h.there in
                let e : 2 ^ 32 ≡ h.factor * 2 ^ h.power = sym (column_at n k below) ∙ ap (λ (i : ℕ). slice_index (column n k) i) (sym own) ∙ h.divides in
                let le = power_le (2 ^ 32) h.factor h.power e (pow_pos 32) in
                let at : slice_index row k ≡ slice_index row (lead h.row) = ap (λ (i : ℕ). slice_index row i) (sym (h.same ∙ own)) in
                let p = h.is_pivot in omega arith
          ]
        ]
      ]

  -- a row with the pivot 2^32 is 0 elsewhere
  pub full_row : pivot row ≡ 2 ^ 32 → row ≡ column n (lead row)
  full_row e =
      let b = is.basis.0 in
      let u = column n (lead row) in
      let urow = column_row n (lead row) in
      let are = basis_rows n (row ∷ rest) is.basis in
      let m = combination_sum n (Contains (row ∷ rest)) are (2 ^ 64 - 1) row u (generator n (Contains (row ∷ rest)) are row (contains_first row rest)) first_column in
      let z : slice_index (words_of (plus (2 ^ 64 - 1) row (column n (lead row)))) (lead row) ≡ 0 =
      index_of_sum n (2 ^ 64 - 1) row u (lead row) b.is_row urow ∙ ap₂ (λ (x y : ℕ). word (x + (2 ^ 64 - 1) * y)) e (column_at n (lead row) b.within) in
      let there = drop_first n row rest b (basis_rows n rest is.basis.1) (words_of (plus (2 ^ 64 - 1) row (column n (lead row)))) m z in
      let below : All (λ r. slice_index (column n (lead row)) (lead r) < pivot r) rest =
      All-weaker (Contains rest) (λ r. slice_index (column n (lead row)) (lead r) < pivot r)
      (λ r h.
      let lt : lead row < lead r = All-contains (λ r. lead row < lead r) rest r b.later h in
      let zero_there = column_elsewhere n (lead row) (lead r) (λ s. omega arith) in
      let some : slice_index row (lead r) < pivot r = All-contains (λ r. slice_index row (lead r) < pivot r) rest r is.reduced.0 h in omega arith)
      rest (All-contains_itself rest) in
      let sum : row ≡ words_of (plus 1 (column n (lead row)) (words_of (plus (2 ^ 64 - 1) row (column n (lead row))))) =
      sym (take_back n 1 (2 ^ 64 - 1) row u b.is_row urow refl) ∙ ap words_of (turned_sum (words_of (plus (2 ^ 64 - 1) row (column n (lead row)))) (column n (lead row))) in
      same_remainder n rest row (column n (lead row)) (words_of (plus (2 ^ 64 - 1) row (column n (lead row)))) is.basis.1 b.is_row urow is.reduced.0 below there sum
    where
      turned_sum : (v w : List ℕ) → plus 1 v w ≡ plus 1 w v
      turned_sum [] [] = refl
      turned_sum [] (w ∷ ws) = refl
      turned_sum (v ∷ vs) [] = refl
      turned_sum (v ∷ vs) (w ∷ ws) = let h = turned_sum vs ws in let e : v + 1 * w ≡ w + 1 * v = omega arith in cc

  -- a row with another pivot is narrow
  pub kept_power : (pivot row ≡ 2 ^ 32 → ⊥) → is.basis.0.power < 32
  kept_power ne =
      let le = small_power in
      elim (cases_lt is.basis.0.power 32) [
        | inl lt ↦ lt
        | inr ge ↦ let e : is.basis.0.power ≡ 32 = omega arith in absurd (ne (is.basis.0.is_pivot ∙ ap (λ (t : ℕ). 2 ^ t) e))
      ]

  pub kept_row : (pivot row ≡ 2 ^ 32 → ⊥) → IsNarrowRow n row
  kept_row ne = record {
    width = is.basis.0.is_row.width;
    words = same_number_lists (narrowed row) row (length-narrowed row) (λ k below. get_or-narrowed row k ∙ mod-eq_of_lt (bound k));
  } where
    bound : (k : ℕ) → slice_index row k < 2 ^ 32
    bound k = elim (cases_eq k (lead row)) [
      | inl e ↦ let p = is.basis.0.is_pivot in let h = pow_below is.basis.0.power 32 (kept_power ne) in rw e (omega arith)
      | inr other ↦ small_word k other
    ]

-- the dropped rows are 0 modulo 2^32
pub dropped_vanish : (n s l : ℕ) (rows : List (List ℕ)) → IsFull n s l rows → (r : List ℕ) → Contains rows r → pivot r ≡ 2 ^ 32 → narrowed r ≡ replicate n 0
dropped_vanish n s l [] is r h e = absurd (nothing_contained r h)
dropped_vanish n s l (row ∷ rest) is r h e = elim (first_or_later row rest r h) [
  | inl same ↦ ap narrowed (same ∙ full_row n s l row rest is (ap pivot (sym same) ∙ e)) ∙ column_vanishes n (lead row)
  | inr i ↦ dropped_vanish n s (suc (lead row)) rest (full_rest n s l row rest is) r i e
]

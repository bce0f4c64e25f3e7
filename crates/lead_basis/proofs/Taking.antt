-- Multiples taken from a row, one row of a basis after another.
use Rattle.std.proofs.Common.{◌≡◌, ℕ, zero, suc, ◌+◌, ◌*◌, ◌/◌, ◌%◌, ◌^◌, ◌<◌, inl, inr, List, [], ◌∷◌, length, Contains, get_or, take, drop, slice_index, replicate, refl, ap, sym, ◌∙◌, arith, get_or-take, length-take, mod-lt}
use Rattle.std.proofs.lemmas.Bool.{cases_lt}
use Rattle.std.proofs.lemmas.Nat.{pow_pos, mod_below}
use Rattle.std.proofs.lemmas.List.{take_more}
use Rattle.std.proofs.lemmas.List.Elements.{All-nil, All-more, Contains-append_left, Contains-push}
use Rattle.word_rows.specs.Words.{word}
use Rattle.word_rows.specs.Rows.{words_of, plus, lead, pivot, IsRow}
use Rattle.word_rows.proofs.Laws.{get_or_before_lead, words_of-plus_first, words_of-plus_second, plus-plus_comm, plus-plus_second, IsRow-plus}
use Rattle.row_modules.specs.Modules.{none, more}
use Rattle.row_modules.specs.Bases.{Leads, IsLeadingBasis}
use Rattle.row_modules.proofs.Laws.{plus_zeros}
use Rattle.row_modules.proofs.Laws.{spans_more}
use Rattle.lead_basis.specs.Remainders.{TakesMultiple, IsRemainder}
use Rattle.lead_basis.proofs.Powers.{word_left}
use Rattle.lead_basis.proofs.Positions.{index_of_sum, index_of_word, take_back, lead_above}
use Rattle.lead_basis.proofs.Remains.{IsBelow}

pub takes_multiple : (n : ℕ) (by row rest : List ℕ) (c q p : ℕ) → IsRow n by → IsRow n row → p ≡ slice_index by (lead by) → q ≡ slice_index row (lead by) / p → word (c + q) ≡ 0 → rest ≡ words_of (plus c row by) → TakesMultiple n by row rest
takes_multiple n by row rest c q p b r pivot_is quotient negated is = record {
  is_row = rw is (IsRow-plus n c row by r b);
  is =
      sym (take_back n q c row by r b (let e : q + c ≡ c + q = omega arith in ap word e ∙ negated)) ∙ ap (λ (x : List ℕ). words_of (plus q x by)) (sym is)
      ∙ ap (λ (x : ℕ). words_of (plus x rest by)) (quotient ∙ ap (λ (x : ℕ). slice_index row (lead by) / x) pivot_is);
  left =
      let w = index_of_word n row (lead by) r in
      let range : word (slice_index row (lead by)) < 2 ^ 64 = mod-lt (slice_index row (lead by)) (pow_pos 64) in
      let h = word_left (slice_index row (lead by)) c q p (omega arith) quotient negated in
      ap (λ (x : List ℕ). slice_index x (lead by)) is ∙ index_of_sum n c row by (lead by) r b ∙ ap (λ (x : ℕ). word (slice_index row (lead by) + c * x)) (sym pivot_is) ∙ h ∙ ap (λ (x : ℕ). slice_index row (lead by) % x) pivot_is;
}

-- the row at a place leads those after it
pub leads_at : (n : ℕ) (rows : List (List ℕ)) (i : ℕ) (d : List ℕ) → IsLeadingBasis n rows → i < length rows → Leads n (get_or rows i d) (drop (suc i) rows)
leads_at n [] i d b below = absurd (omega arith)
leads_at n (row ∷ rest) zero d b below = b.0
leads_at n (row ∷ rest) (suc i) d b below = leads_at n rest i d b.1 (omega arith)

pub leads_rise : (n : ℕ) (rows : List (List ℕ)) → IsLeadingBasis n rows → (j i : ℕ) (d e : List ℕ) → j < i → i < length rows → lead (get_or rows j d) < lead (get_or rows i e)
leads_rise n [] b j i d e lt below = absurd (omega arith)
leads_rise n (row ∷ rest) b j zero d e lt below = absurd (omega arith)
leads_rise n (row ∷ rest) b zero (suc i) d e lt below = b.0.later i e (omega arith)
leads_rise n (row ∷ rest) b (suc j) (suc i) d e lt below = leads_rise n rest b.1 j i d e (omega arith) (omega arith)

pub remainder_none : (n : ℕ) (row : List ℕ) → IsRow n row → IsRemainder n [] row row
remainder_none n row r = record {
  is_row = r;
  taken = replicate n 0;
  combination = none (replicate n 0) refl;
  is = sym (plus_zeros n 1 row r);
  below = All-nil (λ y. slice_index row (lead y) < pivot y);
}

-- where a row is 0, a multiple of it changes nothing
pub unchanged_at : (n k : ℕ) (by rest next : List ℕ) → IsRow n by → TakesMultiple n by rest next → slice_index by k ≡ 0 → slice_index next k ≡ slice_index rest k
unchanged_at n k by rest next b t z =
    let m = slice_index rest (lead by) / pivot by in
    let e : slice_index next k + m * slice_index by k ≡ slice_index next k = ap (λ (x : ℕ). slice_index next k + m * x) z ∙ (let s : slice_index next k + m * 0 ≡ slice_index next k = omega arith in s) in
    index_of_word n next k t.is_row ∙ ap word (sym e) ∙ sym (index_of_sum n m next by k t.is_row b) ∙ ap (λ (x : List ℕ). slice_index x k) (sym t.is)

-- a row less a multiple of one with its lead has a later lead, if its word there is 0
pub taken_later : (n : ℕ) (by row rest : List ℕ) → IsRow n by → lead by ≡ lead row → lead row < n → TakesMultiple n by row rest → slice_index rest (lead row) ≡ 0 → lead row < lead rest
taken_later n by row rest b same inside t z =
    lead_above n (lead row) rest t.is_row inside
    (λ k le. elim (cases_lt k (lead row)) [
      | inl lt ↦ unchanged_at n k by row rest b t (get_or_before_lead by k (omega arith)) ∙ get_or_before_lead row k lt
      | inr ge ↦ let e : k ≡ lead row = omega arith in ap (λ (x : ℕ). slice_index rest x) e ∙ z
    ])

module _ (n : ℕ) (rows : List (List ℕ)) (basis : IsLeadingBasis n rows) where
  -- at the leads of the rows before, a multiple of a row changes nothing
  kept_below : (i : ℕ) (by rest next : List ℕ) → i < length rows → by ≡ get_or rows i by → IsRow n by → TakesMultiple n by rest next → IsBelow rest (take i rows) → IsBelow next (take i rows)
  kept_below i by rest next below is b t h k d lt =
      let size = length-take i rows in
      let at : get_or (take i rows) k d ≡ get_or rows k d = get_or-take i rows k d (omega arith) in
      let rise : lead (get_or rows k d) < lead by = rw is (leads_rise n rows basis k i d by (omega arith) below) in
      let z = get_or_before_lead by (lead (get_or (take i rows) k d)) (rw at rise) in
      let e = unchanged_at n (lead (get_or (take i rows) k d)) by rest next b t z in
      rw e (h k d lt)

  pub remainder_more : (i : ℕ) (row rest next by : List ℕ) → i < length rows → by ≡ get_or rows i by → IsRemainder n (take i rows) row rest → TakesMultiple n by rest next → IsRemainder n (take (i + 1) rows) row next
  remainder_more i row rest next by below is r t =
      let m = slice_index rest (lead by) / pivot by in
      let leads : Leads n by (drop (suc i) rows) = rw is (leads_at n rows i by basis below) in
      let one = take_more rows i by below in
      let here : Contains (take (i + 1) rows) by = rw (one, ← is) (Contains-push (take i rows) by) in
      let before : (v : List ℕ) → Contains (take i rows) v → Contains (take (i + 1) rows) v = λ v h. rw one (Contains-append_left (take i rows) (get_or rows i by ∷ []) v h) in
      let p = leads.is_pivot in
      let s = pow_pos leads.power in
      let small : slice_index next (lead by) < pivot by = let m = mod_below (slice_index rest (lead by)) (pivot by) (omega arith) in let e = t.left in omega arith in
      record {
        is_row = t.is_row;
        taken = words_of (plus m r.taken by);
        combination = more m r.taken by (words_of (plus m r.taken by)) (spans_more n (Contains (take i rows)) (Contains (take (i + 1) rows)) before r.taken r.combination) here refl;
        is =
            r.is ∙ ap (λ (x : List ℕ). words_of (plus 1 x r.taken)) t.is ∙ words_of-plus_first 1 (plus m next by) r.taken ∙ ap words_of (plus-plus_comm 1 m next by r.taken)
            ∙ ap (λ (c : ℕ). words_of (plus c (plus 1 next r.taken) by)) (let e : m ≡ 1 * m = omega arith in e)
            ∙ ap words_of (sym (plus-plus_second 1 m next r.taken by)) ∙ sym (words_of-plus_second 1 next (plus m r.taken by));
        below = All-more (λ y. slice_index next (lead y) < pivot y) rows i by below (kept_below i by rest next below is leads.is_row t r.below) (rw (← is) small);
      }

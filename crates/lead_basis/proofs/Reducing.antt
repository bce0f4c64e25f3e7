-- A basis stays one, with its module, when a row is exchanged for its remainder by the later rows.
use Rattle.std.proofs.Common.{◌≡◌, ℕ, suc, ◌+◌, ◌-◌, ◌*◌, ◌^◌, ◌<◌, ◌≤◌, min, List, ◌∷◌, length, All, Contains, get_or, slice_index, take, drop, set, refl, ap, sym, subst, ◌∙◌, arith, add-one}
use Rattle.std.proofs.lemmas.Nat.{pow_pos}
use Rattle.std.proofs.lemmas.List.{get_or-take, length-take, take-set, drop-set}
use Rattle.std.proofs.lemmas.List.Elements.{All-weaker, All-contains_itself}
use Rattle.word_rows.specs.Words.{word}
use Rattle.word_rows.specs.Rows.{words_of, plus, times, lead, IsRow}
use Rattle.word_rows.proofs.Laws.{get_or_before_lead, lead_from_index, words_of-times, words_of-plus_first, times-plus}
use Rattle.row_modules.specs.Modules.{IsCombination, SameModule}
use Rattle.row_modules.specs.Bases.{Leads, IsLeadingBasis}
use Rattle.row_modules.proofs.Laws.{combination_sum, combination_is_row, generator}
use Rattle.row_modules.proofs.Laws.{contains_first}
use Rattle.lead_basis.specs.Remainders.{IsRemainder}
use Rattle.lead_basis.specs.Laws.{Reduces}
use Rattle.lead_basis.proofs.Positions.{index_of_sum, index_of_word, take_back, zero_at, zero_to, lead_above}
use Rattle.lead_basis.proofs.Leading.{basis_rows}
use Rattle.lead_basis.proofs.Between.{later_within, within_with}
use Rattle.lead_basis.proofs.Places.{fronts, basis_after}
use Rattle.lead_basis.proofs.Reached.{basis_reached}

module _ (n : ℕ) (row rest : List ℕ) (before after : List (List ℕ)) (leads : Leads n row before) (old : IsLeadingBasis n before) (basis : IsLeadingBasis n after) (same : SameModule n (Contains after) (Contains before)) (left : IsRemainder n after row rest) where
  -- what was taken is 0 up to the lead
  taken_zero : (k : ℕ) → k ≤ lead row → slice_index left.taken k ≡ 0
  taken_zero k le = zero_at n k (Contains before) (basis_rows n before old) (zero_to (lead row) before leads.later k le) left.taken (same.there left.taken left.combination)

  taken_row : IsRow n left.taken
  taken_row = combination_is_row n (Contains after) (basis_rows n after basis) left.taken left.combination

  kept_to_lead : (k : ℕ) → k ≤ lead row → slice_index rest k ≡ slice_index row k
  kept_to_lead k le =
      let e = left.is in
      let s : slice_index rest k + 1 * slice_index left.taken k ≡ slice_index rest k = let z = taken_zero k le in omega arith in
      index_of_word n rest k left.is_row ∙ ap word (sym s) ∙ sym (index_of_sum n 1 rest left.taken k left.is_row taken_row) ∙ ap (λ (x : List ℕ). slice_index x k) (sym e)

  same_lead : lead rest ≡ lead row
  same_lead =
      let w = left.is_row.width in let i = leads.within in
      let p = leads.is_pivot in let s = pow_pos leads.power in
      let e = kept_to_lead (lead row) (omega arith) in
      lead_from_index rest (lead row) (omega arith) (λ z. omega arith) (λ k lt. kept_to_lead k (omega arith) ∙ get_or_before_lead row k lt)

  later : All (λ r. lead rest < lead r) after
  later =
      let own = basis_rows n after basis in
      rw same_lead (All-weaker (Contains after) (λ r. lead row < lead r)
      (λ v h. lead_above n (lead row) v (own v h) leads.within
      (λ k le. zero_at n k (Contains before) (basis_rows n before old) (zero_to (lead row) before leads.later k le) v (same.there v (generator n (Contains after) own v h))))
      after (All-contains_itself after))

  -- the rest is the row less what was taken
  rest_is_difference : rest ≡ words_of (plus (2 ^ 64 - 1) row left.taken)
  rest_is_difference =
      sym (take_back n (2 ^ 64 - 1) 1 rest left.taken left.is_row taken_row refl) ∙ ap (λ (x : List ℕ). words_of (plus (2 ^ 64 - 1) x left.taken)) (sym left.is)

  closing : IsCombination n (Contains after) (words_of (times (2 ^ (64 - leads.power)) rest))
  closing =
      let k = 2 ^ (64 - leads.power) in
      let c = 2 ^ (64 - leads.power) * (2 ^ 64 - 1) in
      let m = same.back (words_of (times (2 ^ (64 - leads.power)) row)) leads.closing in
      let e : words_of (times (2 ^ (64 - leads.power)) rest) ≡ words_of (plus (2 ^ (64 - leads.power) * (2 ^ 64 - 1)) (words_of (times (2 ^ (64 - leads.power)) row)) left.taken) =
      ap (λ (x : List ℕ). words_of (times (2 ^ (64 - leads.power)) x)) rest_is_difference ∙ words_of-times (2 ^ (64 - leads.power)) (plus (2 ^ 64 - 1) row left.taken)
      ∙ ap words_of (times-plus (2 ^ (64 - leads.power)) (2 ^ 64 - 1) row left.taken) ∙ sym (words_of-plus_first (2 ^ (64 - leads.power) * (2 ^ 64 - 1)) (times (2 ^ (64 - leads.power)) row) left.taken) in
      rw e (combination_sum n (Contains after) (basis_rows n after basis) (2 ^ (64 - leads.power) * (2 ^ 64 - 1)) (words_of (times (2 ^ (64 - leads.power)) row)) left.taken m left.combination)

  pub still_basis : IsLeadingBasis n (rest ∷ after)
  still_basis = (
    record {
      is_row = left.is_row;
      within = let e = same_lead in let i = leads.within in omega arith;
      power = leads.power;
      small = leads.small;
      is_pivot = ap (λ (k : ℕ). slice_index rest k) same_lead ∙ kept_to_lead (lead row) (omega arith) ∙ leads.is_pivot;
      later = later;
      closing = closing;
    },
    basis,
  )

  pub still_same : SameModule n (Contains (rest ∷ after)) (Contains (row ∷ before))
  still_same =
      let new = basis_rows n (rest ∷ after) still_basis in
      let was = basis_rows n (row ∷ before) (leads, old) in
      let row_in = generator n (Contains (row ∷ before)) was row (contains_first row before) in
      let rest_in = generator n (Contains (rest ∷ after)) new rest (contains_first rest after) in
      record {
        there = within_with n rest after (row ∷ before) was
            (let e = rest_is_difference in rw e (combination_sum n (Contains (row ∷ before)) was (2 ^ 64 - 1) row left.taken row_in (later_within n row before left.taken (same.there left.taken left.combination))))
            (λ v m. later_within n row before v (same.there v m)) (basis_rows n after basis);
        back = within_with n row before (rest ∷ after) new
            (let e = left.is in rw e (combination_sum n (Contains (rest ∷ after)) new 1 rest left.taken rest_in (later_within n rest after left.taken left.combination)))
            (λ v m. later_within n rest after v (same.back v m)) (basis_rows n before old);
      }

-- one row more of a list is reduced
pub reduces_more : (n i : ℕ) (old now : List (List ℕ)) (row rest : List ℕ) → i < length now → IsLeadingBasis n old → row ≡ get_or now i row → take (suc i) now ≡ take (suc i) old → Reduces n (drop (suc i) old) (drop (suc i) now) → IsRemainder n (drop (suc i) now) row rest → (take i (set now i rest) ≡ take i old) × Reduces n (drop i old) (drop i (set now i rest))
reduces_more n i old now row rest inside basis is front done left =
    let sizes : min (suc i) (length now) ≡ min (suc i) (length old) = sym (length-take (suc i) now) ∙ ap (λ (x : List (List ℕ)). length x) front ∙ length-take (suc i) old in
    let below : i < length old = omega arith in
    let f = fronts i row old now below front in
    let b = basis_after n old i row below (basis_reached n 0 i old (omega arith) (omega arith) basis) in
    let same_row : get_or old i row ≡ row = sym (get_or-take (suc i) old i row (omega arith)) ∙ ap (λ (x : List (List ℕ)). get_or x i row) (sym front) ∙ get_or-take (suc i) now i row (omega arith) ∙ sym is in
    let leads = subst (λ (x : List ℕ). Leads n x (drop (suc i) old)) same_row b.0 in
    let old_is : drop i old ≡ row ∷ drop (suc i) old = f.old_is ∙ ap (λ (x : List ℕ). x ∷ drop (suc i) old) same_row in
    let new_is : drop i (set now i rest) ≡ rest ∷ drop (suc i) now = drop-set now i rest f.below ∙ ap (λ (k : ℕ). rest ∷ drop k now) (add-one i) in (
      take-set now i rest ∙ f.front,
      rw (old_is, new_is) (record {
        basis = still_basis n row rest (drop (suc i) old) (drop (suc i) now) leads b.1 done.basis done.same_module left;
        reduced = (left.below, done.reduced);
        same_module = still_same n row rest (drop (suc i) old) (drop (suc i) now) leads b.1 done.basis done.same_module left;
      }),
    )

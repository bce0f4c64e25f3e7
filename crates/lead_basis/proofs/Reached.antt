-- The way past rows with earlier leads, and the places where it ends.
use Rattle.std.proofs.Common.{◌≡◌, ℕ, zero, suc, ◌+◌, ◌-◌, ◌%◌, ◌<◌, ◌≤◌, Bool, false, true, is_err, List, [], length, get_or, slice_index, drop, replicate, All, Result, Ok, Err, refl, ap, sym, subst, ◌∙◌, arith, drop_of_length-le}
use Rattle.std.specs.List.{AllWithin}
use Rattle.std.proofs.Math.Seq.{drop-cons}
use Rattle.std.proofs.lemmas.List.{get_or_default}
use Rattle.std.proofs.lemmas.List.Elements.{All-nil, All-cons, All-weaker}
use Rattle.word_rows.specs.Rows.{lead, pivot, IsRow}
use Rattle.row_modules.specs.Modules.{none}
use Rattle.row_modules.specs.Bases.{Leads, IsLeadingBasis}
use Rattle.lead_basis.specs.Remainders.{TakesMultiple}
use Rattle.lead_basis.specs.Inserts.{AddsFrom, HasPassed, HasLead}
use Rattle.lead_basis.proofs.Between.{adds_no_member}
use Rattle.lead_basis.proofs.Taking.{taken_later}
use Rattle.lead_basis.proofs.Passing.{takes_nothing}
use Rattle.lead_basis.proofs.Places.{basis_after, adds_from_passed}

-- rows with earlier leads are passed one after another
pub adds_from_skipped : {E : Type 0} (n gap from at : ℕ) (old : List (List ℕ)) (row : List ℕ) (new : List (List ℕ)) (result : Result Bool E) (before after : ℕ) → from + gap ≡ at → at ≤ length old → IsLeadingBasis n (drop from old) → IsRow n row → AllWithin (λ r. lead r < lead row) old from at → AddsFrom n at old row new result before after → AddsFrom n from old row new result before after
adds_from_skipped n zero from at old row new result before after e within basis row_is passed a =
    let s : from ≡ at = omega arith in rw s a
adds_from_skipped n (suc gap) from at old row new result before after e within basis row_is passed a =
    let below : from < length old = omega arith in
    let b = basis_after n old from row below basis in
    let lt : lead (get_or old from row) < lead row = passed from row (omega arith) (omega arith) in
    adds_from_passed n from old row below basis row_is row row new result before after (takes_nothing n (get_or old from row) row b.0.is_row row_is lt) lt
    (adds_from_skipped n gap (suc from) at old row new result before after (omega arith) within b.1 row_is (λ k d low high. passed k d (omega arith) high) a)

basis_later : (n gap from at : ℕ) (rows : List (List ℕ)) → from + gap ≡ at → at ≤ length rows → IsLeadingBasis n (drop from rows) → IsLeadingBasis n (drop at rows)
basis_later n zero from at rows e within b = let s : at ≡ from = omega arith in rw s b
basis_later n (suc gap) from at rows e within b = basis_later n gap (suc from) at rows (omega arith) within (basis_after n rows from [] (omega arith) b).1

pub basis_reached : (n from at : ℕ) (rows : List (List ℕ)) → from ≤ at → at ≤ length rows → IsLeadingBasis n (drop from rows) → IsLeadingBasis n (drop at rows)
basis_reached n from at rows start = basis_later n (at - from) from at rows (omega arith)

pub adds_from_reached : {E : Type 0} (n from at position : ℕ) (old : List (List ℕ)) (row : List ℕ) (new : List (List ℕ)) (result : Result Bool E) (before after : ℕ) → HasPassed old from position at → position ≡ lead row → IsLeadingBasis n (drop from old) → IsRow n row → AddsFrom n at old row new result before after → AddsFrom n from old row new result before after
adds_from_reached n from at position old row new result before after r is_lead basis row_is a =
    let start = r.start in
    adds_from_skipped n (at - from) from at old row new result before after (omega arith) r.end basis row_is (subst (λ (k : ℕ). AllWithin (λ r. lead r < k) old from at) is_lead r.passed) a

-- a row of a basis with the lead of another row
pub record Meets (n at : ℕ) (rows : List (List ℕ)) (row other : List ℕ) : Type 0 where
  pub below : at < length rows
  pub basis : IsLeadingBasis n (drop at rows)
  pub first : Leads n other (drop (suc at) rows)
  pub rest : IsLeadingBasis n (drop (suc at) rows)
  pub same_lead : lead other ≡ lead row

pub meets : (n from at position : ℕ) (rows : List (List ℕ)) (row other : List ℕ) → HasLead rows from position at → position ≡ lead row → IsLeadingBasis n (drop from rows) → other ≡ get_or rows at other → Meets n at rows row other
meets n from at position rows row other h is_lead basis is =
    let there = basis_reached n from at rows h.reached.start h.reached.end basis in
    let b = basis_after n rows at other h.below there in
    record {
      below = h.below;
      basis = there;
      first = subst (λ (x : List ℕ). Leads n x (drop (suc at) rows)) (sym is) b.0;
      rest = b.1;
      same_lead = ap lead is ∙ h.here other ∙ is_lead;
    }

-- what is left of a row, once the multiple of the row with its lead is taken, leads later
pub left_leads_later : (n at : ℕ) (rows : List (List ℕ)) (row other by rest : List ℕ) → Meets n at rows row other → lead row < n → TakesMultiple n other row rest
    → other ≡ get_or rows at other → by ≡ get_or rows at by → slice_index row (lead by) % pivot by ≡ 0 → lead row < lead rest
left_leads_later n at rows row other by rest m inside takes is also divided =
    let same : by ≡ other = also ∙ get_or_default rows at by other m.below ∙ sym is in
    let at_other : slice_index row (lead other) % pivot other ≡ 0 = subst (λ (b : List ℕ). slice_index row (lead b) % pivot b ≡ 0) same divided in
    taken_later n other row rest m.first.is_row m.same_lead inside takes (ap (λ (k : ℕ). slice_index rest k) (sym m.same_lead) ∙ takes.left ∙ at_other)

pub later_at_end : (l at : ℕ) (rows : List (List ℕ)) → at ≡ length rows → All (λ r. l < lead r) (drop at rows)
later_at_end l at rows e = let z = drop_of_length-le rows {i = at} (omega arith) in rw z (All-nil (λ r. l < lead r))

pub later_from : (n l at : ℕ) (d : List ℕ) (rows : List (List ℕ)) → at < length rows → IsLeadingBasis n (drop at rows) → l < lead (get_or rows at d) → All (λ r. l < lead r) (drop at rows)
later_from n l at d rows below basis h =
    let b = basis_after n rows at d below basis in
    rw (drop-cons rows at d below)
    (All-cons (λ r. l < lead r) (get_or rows at d) (drop (suc at) rows) h (All-weaker (λ r. lead (get_or rows at d) < lead r) (λ r. l < lead r) (λ r k. omega arith) (drop (suc at) rows) b.0.later))

-- an answer that is a refusal
pub adds_from_any_err : {E : Type 0} (n from : ℕ) (old : List (List ℕ)) (row : List ℕ) (new : List (List ℕ)) (result : Result Bool E) (before after : ℕ) → is_err result ≡ true → ((e : E) → AddsFrom n from old row new (Err e) before after) → AddsFrom n from old row new result before after
adds_from_any_err n from old row new (Ok grew) before after is h = absurd (cc)
adds_from_any_err n from old row new (Err e) before after is h = h e

-- a zero row adds nothing
pub adds_from_zero : {E : Type 0} (n from : ℕ) (old : List (List ℕ)) (before : ℕ) → IsLeadingBasis n (drop from old) → AddsFrom {E = E} n from old (replicate n 0) old (Ok false) before before
adds_from_zero n from old before basis = record {
  front = refl;
  adds = adds_no_member n (drop from old) (replicate n 0) before basis (none (replicate n 0) refl);
}

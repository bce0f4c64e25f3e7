-- A basis between an old one and the old one with a row.
use Rattle.std.proofs.Common.{inl, inr, ℕ, ◌+◌, ◌-◌, ◌^◌, ◌<◌, ◌≤◌, true, false, List, ◌∷◌, length, All, Contains, Ok, refl, arith}
use Rattle.std.proofs.lemmas.List.Elements.{All-weaker, All-contains_itself}
use Rattle.word_rows.specs.Rows.{words_of, times, lead, IsRow}
use Rattle.word_rows.proofs.Laws.{get_or_before_lead}
use Rattle.row_modules.specs.Modules.{AreRows, IsCombination, IsWithin}
use Rattle.row_modules.specs.Bases.{Leads, IsLeadingBasis, basis_length}
use Rattle.row_modules.proofs.Laws.{generator, combinations, module_multiple}
use Rattle.row_modules.proofs.Laws.{contains_first, contains_later, first_or_later, rows_with, spans_more, within_from_generators}
use Rattle.lead_basis.specs.Remainders.{IsNormal}
use Rattle.lead_basis.specs.Inserts.{IsBetween, Adds}
use Rattle.lead_basis.proofs.Positions.{zero_at, zero_to, lead_above}
use Rattle.lead_basis.proofs.Leading.{basis_rows}

pub later_within : (n : ℕ) (row : List ℕ) (rows : List (List ℕ)) → IsWithin n (Contains rows) (Contains (row ∷ rows))
later_within n row rows = spans_more n (Contains rows) (Contains (row ∷ rows)) (contains_later row rows)

-- one row more on both sides
pub within_with : (n : ℕ) (row : List ℕ) (rows wide : List (List ℕ)) → AreRows n (Contains wide) → IsCombination n (Contains wide) row → IsWithin n (Contains rows) (Contains wide) → AreRows n (Contains rows) → IsWithin n (Contains (row ∷ rows)) (Contains wide)
within_with n row rows wide r m w own =
    within_from_generators n (Contains (row ∷ rows)) (Contains wide) r
    (λ v h. elim (first_or_later row rows v h) [ inl e ↦ rw e m | inr k ↦ w v (generator n (Contains rows) own v k) ])

-- a multiple of a generator
pub multiple_of : (n c : ℕ) (row : List ℕ) (rows : List (List ℕ)) → AreRows n (Contains rows) → Contains rows row → IsCombination n (Contains rows) (words_of (times c row))
multiple_of n c row rows wide h =
    module_multiple n (IsCombination n (Contains rows)) (combinations n (Contains rows) wide) c row (generator n (Contains rows) wide row h)

module _ (n : ℕ) (old : List (List ℕ)) (row : List ℕ) (new : List (List ℕ)) (basis : IsLeadingBasis n old) (row_is : IsRow n row) where
  -- later leads stay later
  pub later_leads : (l : ℕ) → l < n → All (λ r. l < lead r) old → l < lead row → IsBetween n old row new → All (λ r. l < lead r) new
  later_leads l below old_later row_later b =
      let rows = basis_rows n old basis in
      let wide = rows_with n row old row_is rows in
      let own = basis_rows n new b.basis in
      All-weaker (Contains new) (λ r. l < lead r)
      (λ v h. lead_above n l v (own v h) below
      (λ k le. zero_at n k (Contains (row ∷ old)) wide
      (λ u i. elim (first_or_later row old u i) [ inl e ↦ rw e (get_or_before_lead row k (omega arith)) | inr j ↦ zero_to l old old_later k le u j ])
      v (b.within v (generator n (Contains new) own v h))))
      new (All-contains_itself new)

  -- under a row that leads both
  pub between_under : (first : List ℕ) → Leads n first old → lead first < lead row → IsBetween n old row new → IsBetween n (first ∷ old) row (first ∷ new)
  between_under first leads before b =
      let old_rows = basis_rows n (first ∷ old) (leads, basis) in
      let all_rows = rows_with n row (first ∷ old) row_is old_rows in
      let new_basis : IsLeadingBasis n (first ∷ new) = (
        record {
          is_row = leads.is_row;
          within = leads.within;
          power = leads.power;
          small = leads.small;
          is_pivot = leads.is_pivot;
          later = later_leads (lead first) leads.within leads.later before b;
          closing = b.kept (words_of (times (2 ^ (64 - leads.power)) first)) leads.closing;
        },
        b.basis,
      ) in
      let new_rows = basis_rows n (first ∷ new) new_basis in
      record {
        basis = new_basis;
        kept = within_with n first old (first ∷ new) new_rows (generator n (Contains (first ∷ new)) new_rows first (contains_first first new)) (λ v m. later_within n first new v (b.kept v m)) (basis_rows n old basis);
        within = within_with n first new (row ∷ first ∷ old) all_rows
            (generator n (Contains (row ∷ first ∷ old)) all_rows first (contains_later row (first ∷ old) first (contains_first first old)))
            (λ v m. under v (b.within v m)) (basis_rows n new b.basis);
      }
    where
      under : IsWithin n (Contains (row ∷ old)) (Contains (row ∷ first ∷ old))
      under = spans_more n (Contains (row ∷ old)) (Contains (row ∷ first ∷ old))
          (λ v h. elim (first_or_later row old v h) [ inl e ↦ rw e (contains_first row (first ∷ old)) | inr k ↦ contains_later row (first ∷ old) v (contains_later first old v k) ])

  -- seen from a row from which, with the old ones, the added row comes
  pub between_from : (source : List ℕ) → IsRow n source → IsCombination n (Contains (source ∷ old)) row → IsBetween n old row new → IsBetween n old source new
  between_from source source_is m b =
      let rows = basis_rows n old basis in
      let wide = rows_with n source old source_is rows in
      record {
        basis = b.basis;
        kept = b.kept;
        within = λ v h. within_with n row old (source ∷ old) wide m (later_within n source old) rows v (b.within v h);
      }

pub between_none : (n : ℕ) (old : List (List ℕ)) (row : List ℕ) → IsLeadingBasis n old → IsBetween n old row old
between_none n old row b = record { basis = b; kept = λ v m. m; within = later_within n row old }

-- a combination adds nothing
pub adds_no_member : {E : Type 0} (n : ℕ) (old : List (List ℕ)) (row : List ℕ) (steps : ℕ) → IsLeadingBasis n old
    → IsCombination n (Contains old) row → Adds {E = E} n old row old (Ok false) steps steps
adds_no_member n old row steps basis member = record {
  between = between_none n old row basis;
  added = member;
  not_grown = (λ f. member, λ m. refl);
  memory = tt;
  never_falls = omega arith;
  counts_growth = λ h. absurd (cc);
  counts_no_more = λ f. refl;
  counts_rows = omega arith;
  bounded = omega arith;
}

-- a row that was no combination, and whose normal form stands before the other rows
pub adds_own : {E : Type 0} (n : ℕ) (old : List (List ℕ)) (row own : List ℕ) (new : List (List ℕ)) (before after : ℕ) → IsNormal n row own
    → IsBetween n old row (own ∷ new) → ¬ IsCombination n (Contains old) row → before ≤ after → length new + before ≤ length old + after
    → (after + 1) + basis_length old ≤ before + basis_length (own ∷ new) → Adds {E = E} n old row (own ∷ new) (Ok true) before (after + 1)
adds_own n old row own new before after normal between no_member falls rows bounded = record {
  between = between;
  added = let e = normal.back in rw e (multiple_of n normal.inverse own (own ∷ new) (basis_rows n (own ∷ new) between.basis) (contains_first own new));
  not_grown = (λ f. absurd (cc), λ m. absurd (no_member m));
  memory = tt;
  never_falls = omega arith;
  counts_growth = λ _. omega arith;
  counts_no_more = λ f. absurd (cc);
  counts_rows = omega arith;
  bounded = bounded;
}

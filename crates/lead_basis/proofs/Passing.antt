-- A row that passes one with its lead, or with an earlier one.
use Rattle.std.proofs.Common.{◌≡◌, ℕ, ◌+◌, ◌-◌, ◌*◌, ◌/◌, ◌%◌, ◌^◌, ◌<◌, ◌≤◌, Bool, IsFalse, List, ◌∷◌, length, Contains, slice_index, Result, Ok, Err, OnErr, ◌↔◌, refl, ap, sym, ◌∙◌, arith}
use Rattle.std.proofs.Math.Nat.{mul-mod_right, zero-mod, zero-div}
use Rattle.std.proofs.lemmas.Result.{IfOk-weaker}
use Rattle.word_rows.specs.Words.{word}
use Rattle.word_rows.specs.Rows.{words_of, plus, lead, pivot, IsRow}
use Rattle.word_rows.proofs.Laws.{get_or_before_lead, plus-zero}
use Rattle.row_modules.specs.Modules.{AreRows, IsCombination}
use Rattle.row_modules.specs.Bases.{Leads, IsLeadingBasis}
use Rattle.row_modules.proofs.Laws.{combination_sum, generator}
use Rattle.row_modules.proofs.Laws.{contains_first, contains_later, rows_with, with_multiple}
use Rattle.lead_basis.specs.Remainders.{TakesMultiple}
use Rattle.lead_basis.specs.Inserts.{IsBetween, Adds}
use Rattle.lead_basis.proofs.Positions.{take_back}
use Rattle.lead_basis.proofs.Taking.{takes_multiple}
use Rattle.lead_basis.proofs.Leading.{basis_rows, drop_first}
use Rattle.lead_basis.proofs.Between.{between_under, between_from}

pub IfErr-weaker : {X E : Type 0} (r : Result X E) (P Q : Type 0) → (P → Q) → OnErr r P → OnErr r Q
IfErr-weaker (Ok x) P Q h p = tt
IfErr-weaker (Err e) P Q h p = h p

-- each row has a rest by another
pub has_rest : (n : ℕ) (by row : List ℕ) → IsRow n by → IsRow n row → (rest : List ℕ) × TakesMultiple n by row rest
has_rest n by row b r =
    let q = slice_index row (lead by) / pivot by in
    let z : (2 ^ 64 - 1) * q + q ≡ 2 ^ 64 * q = omega arith in
    (words_of (plus ((2 ^ 64 - 1) * q) row by), takes_multiple n by row _ ((2 ^ 64 - 1) * q) q (pivot by) b r refl refl (ap word z ∙ mul-mod_right (2 ^ 64) q) refl)

-- what is taken can be added: the rest is the row with a multiple added
pub rest_is : (n : ℕ) (by row rest : List ℕ) → IsRow n by → TakesMultiple n by row rest → rest ≡ words_of (plus ((2 ^ 64 - 1) * (slice_index row (lead by) / pivot by)) row by)
rest_is n by row rest b t =
    let m = slice_index row (lead by) / pivot by in
    let z : (2 ^ 64 - 1) * m + m ≡ 2 ^ 64 * m = omega arith in
    sym (take_back n ((2 ^ 64 - 1) * m) m rest by t.is_row b (ap word z ∙ mul-mod_right (2 ^ 64) m)) ∙ ap (λ (x : List ℕ). words_of (plus ((2 ^ 64 - 1) * m) x by)) (sym t.is)

-- a row of the module of two, made by adding a multiple of the second
pub sum_of_two : (n c : ℕ) (row by : List ℕ) (rows : List (List ℕ)) → AreRows n (Contains (row ∷ rows)) → Contains rows by → IsCombination n (Contains (row ∷ rows)) (words_of (plus c row by))
sum_of_two n c row by rows wide h =
    let own = generator n (Contains (row ∷ rows)) wide in
    combination_sum n (Contains (row ∷ rows)) wide c row by (own row (contains_first row rows)) (own by (contains_later row rows by h))

-- nothing is taken at a lead before the row's
pub takes_nothing : (n : ℕ) (by row : List ℕ) → IsRow n by → IsRow n row → lead by < lead row → TakesMultiple n by row row
takes_nothing n by row b r before =
    let z = get_or_before_lead row (lead by) before in
    record {
      is_row = r;
      is = sym (ap (λ (x : ℕ). words_of (plus (x / pivot by) row by)) z ∙ ap (λ (x : ℕ). words_of (plus x row by)) (zero-div (pivot by)) ∙ ap words_of (plus-zero row by (r.width ∙ sym b.width)) ∙ r.words);
      left = z ∙ sym (zero-mod (pivot by)) ∙ ap (λ (x : ℕ). x % pivot by) (sym z);
    }

module _ (n : ℕ) (first row next : List ℕ) (rest : List (List ℕ)) (leads : Leads n first rest) (basis : IsLeadingBasis n rest) (row_is : IsRow n row) (takes : TakesMultiple n first row next) (later : lead first < lead next) where
  passed_up : IsCombination n (Contains rest) next → IsCombination n (Contains (first ∷ rest)) row
  passed_up m =
      let h = with_multiple n first rest leads.is_row (basis_rows n rest basis) (slice_index row (lead first) / pivot first) next m in
      let e = takes.is in rw e h

  passed_down : IsCombination n (Contains (first ∷ rest)) row → IsCombination n (Contains rest) next
  passed_down m =
      let wide = basis_rows n (first ∷ rest) (leads, basis) in
      let e = rest_is n first row next leads.is_row takes in
      let h : IsCombination n (Contains (first ∷ rest)) next =
      rw e (combination_sum n (Contains (first ∷ rest)) wide ((2 ^ 64 - 1) * (slice_index row (lead first) / pivot first)) row first m (generator n (Contains (first ∷ rest)) wide first (contains_first first rest))) in
      drop_first n first rest leads (basis_rows n rest basis) next h (get_or_before_lead next (lead first) later)

  pub between_passed : (new : List (List ℕ)) → IsBetween n rest next new → IsBetween n (first ∷ rest) row (first ∷ new)
  between_passed new b =
      let wide = rows_with n row (first ∷ rest) row_is (basis_rows n (first ∷ rest) (leads, basis)) in
      let e = rest_is n first row next leads.is_row takes in
      let m : IsCombination n (Contains (row ∷ first ∷ rest)) next = rw e (sum_of_two n ((2 ^ 64 - 1) * (slice_index row (lead first) / pivot first)) row first (first ∷ rest) wide (contains_first first rest)) in
      between_from n (first ∷ rest) next (first ∷ new) (leads, basis) takes.is_row row row_is m (between_under n rest next new basis takes.is_row first leads later b)

  pub adds_passed : {E : Type 0} (new : List (List ℕ)) (result : Result Bool E) (before after : ℕ) → Adds n rest next new result before after → Adds n (first ∷ rest) row (first ∷ new) result before after
  adds_passed new result before after a =
      let b = between_passed new a.between in
      record {
        between = b;
        added = IfOk-weaker result (λ _. IsCombination n (Contains new) next) (λ _. IsCombination n (Contains (first ∷ new)) row)
            (λ _ m. let h = with_multiple n first new leads.is_row (basis_rows n new a.between.basis) (slice_index row (lead first) / pivot first) next m in let e = takes.is in rw e h) a.added;
        not_grown = IfOk-weaker result (λ grew. IsFalse grew ↔ IsCombination n (Contains rest) next) (λ grew. IsFalse grew ↔ IsCombination n (Contains (first ∷ rest)) row)
            (λ grew h. (λ f. passed_up (h.0 f), λ m. h.1 (passed_down m))) a.not_grown;
        memory = IfErr-weaker result (¬ IsCombination n (Contains rest) next) (¬ IsCombination n (Contains (first ∷ rest)) row) (λ h m. h (passed_down m)) a.memory;
        never_falls = a.never_falls;
        counts_growth = a.counts_growth;
        counts_no_more = a.counts_no_more;
        counts_rows = IfOk-weaker result (λ _. length new + before ≤ length rest + after) (λ _. length (first ∷ new) + before ≤ length (first ∷ rest) + after) (λ _ h. omega arith) a.counts_rows;
        bounded = let h = a.bounded in omega arith;
      }

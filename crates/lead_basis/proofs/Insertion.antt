-- A basis with a row added, as an insertion adds it that has the memory.
use Rattle.std.proofs.Common.{◌≡◌, ◌≢◌, ℕ, zero, suc, ◌+◌, ◌-◌, ◌%◌, ◌^◌, ◌<◌, ◌≤◌, inl, inr, Bool, true, false, List, [], ◌∷◌, length, All, slice_index, replicate, Ok, refl, ap, sym, ◌∙◌, arith}
use Rattle.std.proofs.lemmas.Bool.{cases_lt, cases_eq}
use Rattle.std.proofs.lemmas.Grind.{same_number_lists}
use Rattle.std.proofs.lemmas.List.Elements.{All-nil, All-cons, All-weaker}
use Rattle.word_rows.specs.Rows.{words_of, times, lead, pivot, IsRow}
use Rattle.word_rows.proofs.Laws.{get_or_before_lead, get_or-zeros, IsRow-zeros}
use Rattle.row_modules.specs.Modules.{none}
use Rattle.row_modules.specs.Bases.{Leads, IsLeadingBasis}
use Rattle.lead_basis.specs.Remainders.{TakesMultiple}
use Rattle.lead_basis.specs.Inserts.{Adds}
use Rattle.lead_basis.proofs.Normals.{has_normal}
use Rattle.lead_basis.proofs.Taking.{taken_later}
use Rattle.lead_basis.proofs.Between.{adds_no_member}
use Rattle.lead_basis.proofs.Passing.{has_rest, takes_nothing, adds_passed}
use Rattle.lead_basis.proofs.Preceding.{Precedes, closing_is_row, closing_later}
use Rattle.lead_basis.proofs.Adding.{adds_new}
use Rattle.lead_basis.proofs.Smaller.{Exchanges, exchanged_later}
use Rattle.lead_basis.proofs.Exchanging.{adds_exchanged}

-- a basis with a row added
pub record Extended (n : ℕ) (old : List (List ℕ)) (row : List ℕ) : Type 0 where
  pub new : List (List ℕ)
  pub grew : Bool
  pub steps : ℕ
  pub adds : Adds {E = ℕ} n old row new (Ok grew) 0 steps

nothing_new : (n : ℕ) (old : List (List ℕ)) (row : List ℕ) → IsLeadingBasis n old → IsRow n row → n ≤ lead row → Extended n old row
nothing_new n old row basis is past =
    let w = is.width in
    let z : row ≡ replicate n 0 = same_number_lists row (replicate n 0) (is.width ∙ sym (IsRow-zeros n).width) (λ k below. get_or_before_lead row k (omega arith) ∙ sym (get_or-zeros n k)) in
    record {
      new = old;
      grew = false;
      steps = 0;
      adds = adds_no_member n old row 0 basis (none row z);
    }

module _ (n : ℕ) (row : List ℕ) (is : IsRow n row) (inside : lead row < n) where
  -- before all others
  first_of_all : (old : List (List ℕ)) → IsLeadingBasis n old → All (λ r. lead row < lead r) old → ((next : List ℕ) → IsRow n next → lead row < lead next → Extended n old next) → Extended n old row
  first_of_all old basis later more =
      let (own, normal) = has_normal n row is inside in
      let it : Precedes n old row own (words_of (times (2 ^ (64 - normal.power)) own)) =
      record { basis = basis; row_is = is; normal = normal; inside = inside; later = later; closes = refl } in
      let e = more _ (closing_is_row it) (closing_later it) in
      record { new = own ∷ e.new; grew = true; steps = e.steps + 1; adds = adds_new it e.new e.grew 0 e.steps e.adds }

  module _ (first : List ℕ) (rest : List (List ℕ)) (leads : Leads n first rest) (basis : IsLeadingBasis n rest) (more : (next : List ℕ) → IsRow n next → lead row ≤ lead next → Extended n rest next) where
    -- behind one with its lead, or an earlier one
    passes : (next : List ℕ) → TakesMultiple n first row next → lead first < lead next → lead row ≤ lead next → Extended n (first ∷ rest) row
    passes next takes later no_less =
        let e = more next takes.is_row no_less in
        record { new = first ∷ e.new; grew = e.grew; steps = e.steps; adds = adds_passed n first row next rest leads basis is takes later e.new (Ok e.grew) 0 e.steps e.adds }

    -- in place of one with its lead
    exchanged : lead first ≡ lead row → slice_index row (lead row) % pivot first ≢ 0 → Extended n (first ∷ rest) row
    exchanged same left =
        let (own, normal) = has_normal n row is inside in
        let (next, takes) = has_rest n own first normal.is_row leads.is_row in
        let it : Exchanges n rest first row own next =
        record { leads = leads; basis = basis; row_is = is; normal = normal; same = same; left_over = left; takes = takes } in
        let later = exchanged_later it in
        let e = more next takes.is_row (omega arith) in
        record { new = own ∷ e.new; grew = true; steps = e.steps + 1; adds = adds_exchanged it e.new e.grew 0 e.steps e.adds }

    meets : lead first ≡ lead row → Extended n (first ∷ rest) row
    meets same =
        let (next, takes) = has_rest n first row leads.is_row is in
        elim (cases_eq (slice_index next (lead row)) 0) [
          | inl z ↦ let later = taken_later n first row next leads.is_row same inside takes z in passes next takes (omega arith) (omega arith)
          | inr left ↦ exchanged same (λ z. left (ap (λ (k : ℕ). slice_index next k) (sym same) ∙ takes.left ∙ ap (λ (k : ℕ). slice_index row k % pivot first) same ∙ z))
        ]

    follows : lead first ≤ lead row → Extended n (first ∷ rest) row
    follows le = elim (cases_eq (lead first) (lead row)) [
      | inl same ↦ meets same
      | inr other ↦ passes row (takes_nothing n first row leads.is_row is (omega arith)) (omega arith) (omega arith)
    ]

pub extended : (n fuel : ℕ) (old : List (List ℕ)) (row : List ℕ) → IsLeadingBasis n old → IsRow n row → n + length old ≤ lead row + fuel → Extended n old row
extended n zero old row basis is enough = nothing_new n old row basis is (omega arith)
extended n (suc fuel) [] row basis is enough = elim (cases_lt (lead row) n) [
  | inl inside ↦ first_of_all n row is inside [] basis (All-nil (λ r. lead row < lead r)) (λ next p later. extended n fuel [] next basis p (omega arith))
  | inr past ↦ nothing_new n [] row basis is past
]
extended n (suc fuel) (first ∷ rest) row basis is enough = elim (cases_lt (lead row) n) [
  | inl inside ↦ elim (cases_lt (lead row) (lead first)) [
    | inl before ↦
        first_of_all n row is inside (first ∷ rest) basis
        (All-cons (λ r. lead row < lead r) first rest before (All-weaker (λ r. lead first < lead r) (λ r. lead row < lead r) (λ r k. omega arith) rest basis.0.later))
        (λ next p later. extended n fuel (first ∷ rest) next basis p (omega arith))
    | inr after ↦ follows n row is inside first rest basis.0 basis.1 (λ next p later. extended n fuel rest next basis.1 p (omega arith)) after
  ]
  | inr past ↦ nothing_new n (first ∷ rest) row basis is past
]

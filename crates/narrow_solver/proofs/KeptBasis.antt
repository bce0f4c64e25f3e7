-- The kept rows of a full basis are a reduced narrow basis.
use Rattle.std.proofs.Common.{◌≡◌, ℕ, suc, ◌+◌, ◌-◌, ◌*◌, ◌^◌, ◌<◌, inl, inr, List, [], ◌∷◌, slice_index, All, Contains, ap, ap₂, sym, subst, ◌∙◌, arith}
use Rattle.std.proofs.lemmas.Nat.{pow-add}
use Rattle.std.proofs.lemmas.Bool.{cases_eq}
use Rattle.std.proofs.lemmas.List.Elements.{All-weaker, All-contains, All-contains_itself}
use Rattle.word_rows.specs.Words.{word}
use Rattle.word_rows.specs.Rows.{words_of, plus, times, lead, pivot}
use Rattle.row_modules.specs.Modules.{IsCombination}
use Rattle.row_modules.specs.Bases.{IsReduced}
use Rattle.row_modules.proofs.Laws.{combinations, combination_is_row, combination_sum, generator, module_multiple, contains_first}
use Rattle.lead_basis.proofs.Laws.{index_of_sum, index_of_multiple, basis_rows, drop_first}
use Rattle.narrow_solver.specs.Narrow.{narrowed, kept, IsNarrowCombination, IsNarrowBasis}
use Rattle.narrow_solver.proofs.Narrowing.{narrowed-words_of, narrow_nothing}
use Rattle.narrow_solver.proofs.Keeping.{kept_dropped, kept_stays, kept_within, HasTwin, dropped_add_nothing}
use Rattle.narrow_solver.proofs.Full.{column, column_row, column_at, column_vanishes, IsFull, full_rest, first_column, kept_power, kept_row, dropped_vanish}

-- a combination of a full basis is, modulo 2^32, one of its kept rows
pub full_twin : (n s l : ℕ) (rows : List (List ℕ)) → IsFull n s l rows → (v : List ℕ) → IsCombination n (Contains rows) v → HasTwin n (kept rows) v
full_twin n s l rows is v m = dropped_add_nothing n rows (basis_rows n rows is.basis) (dropped_vanish n s l rows is) v m

closing_word : (t : ℕ) → t < 32 → word (2 ^ (32 - t) * 2 ^ t) ≡ 2 ^ 32
closing_word t small = ap word (sym (pow-add 2 (32 - t) t)) ∙ ap (λ (i : ℕ). word (2 ^ i)) (let e : (32 - t) + t ≡ 32 = omega arith in e)

-- a member with 2^32 at the first lead is, modulo 2^32, a combination of the later kept rows
later_twin : (n s l : ℕ) (row : List ℕ) (rest : List (List ℕ)) → (is : IsFull n s l (row ∷ rest)) → (v : List ℕ) → IsCombination n (Contains (row ∷ rest)) v → slice_index v (lead row) ≡ 2 ^ 32 → HasTwin n (kept rest) v
later_twin n s l row rest is v m here =
    let b = is.basis.0 in
    let are = basis_rows n (row ∷ rest) is.basis in
    let own = combination_is_row n (Contains (row ∷ rest)) are v m in
    let less = combination_sum n (Contains (row ∷ rest)) are (2 ^ 64 - 1) v (column n (lead row)) m (first_column n s l row rest is) in
    let z : slice_index (words_of (plus (2 ^ 64 - 1) v (column n (lead row)))) (lead row) ≡ 0 =
    index_of_sum n (2 ^ 64 - 1) v (column n (lead row)) (lead row) own (column_row n (lead row))
    ∙ ap₂ (λ (p q : ℕ). word (p + (2 ^ 64 - 1) * q)) here (column_at n (lead row) b.within) in
    let there = drop_first n row rest b (basis_rows n rest is.basis.1) (words_of (plus (2 ^ 64 - 1) v (column n (lead row)))) less z in
    let t = full_twin n s (suc (lead row)) rest (full_rest n s l row rest is) (words_of (plus (2 ^ 64 - 1) v (column n (lead row)))) there in
    record {
      twin = t.twin;
      combination = t.combination;
      same = sym (narrow_nothing n (2 ^ 64 - 1) v (column n (lead row)) own.width (column_vanishes n (lead row))) ∙ t.same;
    }

-- so 2^(32-t) times the first row is one
kept_closing : (n s l : ℕ) (row : List ℕ) (rest : List (List ℕ)) → (is : IsFull n s l (row ∷ rest)) → is.basis.0.power < 32 → IsNarrowCombination n (Contains (kept rest)) (narrowed (times (2 ^ (32 - is.basis.0.power)) row))
kept_closing n s l row rest is small =
    let b = is.basis.0 in
    let are = basis_rows n (row ∷ rest) is.basis in
    let m = module_multiple n (IsCombination n (Contains (row ∷ rest))) (combinations n (Contains (row ∷ rest)) are) (2 ^ (32 - is.basis.0.power)) row (generator n (Contains (row ∷ rest)) are row (contains_first row rest)) in
    let here = index_of_multiple (2 ^ (32 - is.basis.0.power)) row (lead row) ∙ ap (λ (y : ℕ). word (2 ^ (32 - is.basis.0.power) * y)) b.is_pivot ∙ closing_word is.basis.0.power small in
    let t = later_twin n s l row rest is (words_of (times (2 ^ (32 - is.basis.0.power)) row)) m here in
    record { whole = t.twin; combination = t.combination; is = sym (narrowed-words_of (times (2 ^ (32 - is.basis.0.power)) row)) ∙ t.same }

-- what holds of all rows holds of the kept ones
kept_all : (P : List ℕ → Type 0) (rows : List (List ℕ)) → All P rows → All P (kept rows)
kept_all P rows all = All-weaker (Contains (kept rows)) P (λ v h. All-contains P rows v all (kept_within rows v h).there) (kept rows) (All-contains_itself (kept rows))

pub kept_is_basis : (n s l : ℕ) (rows : List (List ℕ)) → IsFull n s l rows → IsNarrowBasis n (kept rows)
kept_is_basis n s l [] is = is.basis
kept_is_basis n s l (row ∷ rest) is =
    let h = kept_is_basis n s (suc (lead row)) rest (full_rest n s l row rest is) in
    elim (cases_eq (pivot row) (2 ^ 32)) [
      | inl drop ↦ subst (λ (x : List (List ℕ)). IsNarrowBasis n x) (sym (kept_dropped row rest drop)) h
      | inr stay ↦ subst (λ (x : List (List ℕ)). IsNarrowBasis n x) (sym (kept_stays row rest stay)) (
        record {
          is_row = kept_row n s l row rest is stay;
          within = is.basis.0.within;
          power = is.basis.0.power;
          small = kept_power n s l row rest is stay;
          is_pivot = is.basis.0.is_pivot;
          later = kept_all (λ r. lead row < lead r) rest is.basis.0.later;
          closing = kept_closing n s l row rest is (kept_power n s l row rest is stay);
        },
        h,
      )
    ]

pub kept_is_reduced : (rows : List (List ℕ)) → IsReduced rows → IsReduced (kept rows)
kept_is_reduced [] r = r
kept_is_reduced (row ∷ rest) r = elim (cases_eq (pivot row) (2 ^ 32)) [
  | inl drop ↦ subst IsReduced (sym (kept_dropped row rest drop)) (kept_is_reduced rest r.1)
  | inr stay ↦ subst IsReduced (sym (kept_stays row rest stay)) (kept_all (λ x. slice_index row (lead x) < pivot x) rest r.0, kept_is_reduced rest r.1)
]

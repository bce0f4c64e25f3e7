-- The rows that are 0 outside a set of positions: a module that the unit rows at its positions generate.
use Rattle.std.proofs.Common.{set, subst, ◌≡◌, ℕ, zero, suc, ◌-◌, ◌^◌, ◌<◌, ◌≤◌, inl, inr, ◌==◌, List, slice_index, replicate, IsTrue, refl, ap, sym, ◌∙◌, arith}
use Rattle.std.proofs.lemmas.Bool.{cases_eq, cases_lt}
use Rattle.std.proofs.lemmas.Grind.{same_number_lists}
use Rattle.std.proofs.lemmas.List.{get_or_past, get_or-set_same, get_or-set_other, set-get_or}
use Rattle.std.proofs.lemmas.Nat.Bits.{bit_at_ones}
use Rattle.word_rows.specs.Rows.{IsRow, unit}
use Rattle.word_rows.proofs.Laws.{get_or-wrapped_plus, get_or-zeros, sum_zeros, IsRow-zeros, IsRow-plus, IsRow-unit, unit_elsewhere, IsRow-set, cleared_and_unit}
use Rattle.row_modules.specs.Modules.{AreRows, SameModule, IsCombination, none, more, IsModule}
use Rattle.row_modules.specs.Positions.{has, IsRowOn, IsUnitOn}
use Rattle.row_modules.proofs.Sets.{in_or_out, in_not_out}
use Rattle.row_modules.proofs.Lists.{spans_more, within_from_generators}

pub units_are_rows : (n s : ℕ) → AreRows n (IsUnitOn n s)
units_are_rows n s u h = let e = h.is in rw e (IsRow-unit n h.position)

pub unit_on : (n s i : ℕ) → IsTrue (has s i) → IsRowOn n s (unit n i)
unit_on n s i seen = record {
  row = IsRow-unit n i;
  hidden = λ k out. unit_elsewhere n i k (λ e. in_not_out s k (rw e seen) out);
}

pub rows_on_are_module : (n s : ℕ) → IsModule n (IsRowOn n s)
rows_on_are_module n s = record {
  rows = λ v p. p.row;
  zero_row = record { row = IsRow-zeros n; hidden = λ k out. get_or-zeros n k };
  sum = λ c v w p q. record {
    row = IsRow-plus n c v w p.row q.row;
    hidden = λ k out. get_or-wrapped_plus c v w k (p.row.width ∙ sym q.row.width) ∙ sum_zeros (slice_index v k) c (slice_index w k) (p.hidden k out) (q.hidden k out);
  };
}

-- a row with 0 set at a position
cleared_on : (n s j : ℕ) (a : List ℕ) → j < n → IsRowOn n s a → IsRowOn n s (set a j 0)
cleared_on n s j a below p = record {
  row = IsRow-set n j 0 a p.row;
  hidden = λ k out. cleared_zero n j a k below p.row (p.hidden k out);
}
  where
    cleared_zero : (n j : ℕ) (a : List ℕ) (k : ℕ) → j < n → IsRow n a → slice_index a k ≡ 0 → slice_index (set a j 0) k ≡ 0
    cleared_zero n j a k below row none_there = elim (cases_eq k j) [
      | inl e ↦ let w = row.width in rw e (get_or-set_same a j 0 0 (omega arith))
      | inr ne ↦ get_or-set_other a j k 0 0 ne ∙ none_there
    ]

-- a row that is 0 outside the set, and from j on, is made of the unit rows before j
made_before : (n s j : ℕ) → j ≤ n → (a : List ℕ) → IsRowOn n s a → ((k : ℕ) → j ≤ k → slice_index a k ≡ 0) → IsCombination n (IsUnitOn n s) a
made_before n s zero le a p zeros =
    none a (same_number_lists a (replicate n 0) (p.row.width ∙ sym (IsRow-zeros n).width) (λ k below. zeros k (omega arith) ∙ sym (get_or-zeros n k)))
made_before n s (suc j) le a p zeros =
    let w = p.row.width in
    let rest = made_before n s j (omega arith) (set a j 0) (cleared_on n s j a (omega arith) p)
    (λ k from. elim (cases_eq k j) [
      | inl e ↦ rw e (get_or-set_same a j 0 0 (omega arith))
      | inr ne ↦ get_or-set_other a j k 0 0 ne ∙ zeros k (omega arith)
    ]) in
    elim (in_or_out s j) [
      | inl seen ↦ more (slice_index a j) (set a j 0) (unit n j) a rest (record { position = j; within = omega arith; there = seen; is = refl }) (cleared_and_unit n j a p.row)
      | inr out ↦ subst (IsCombination n (IsUnitOn n s)) (ap (set a j) (sym (p.hidden j out)) ∙ set-get_or a j 0) rest
    ]

pub from_units : (n s : ℕ) (a : List ℕ) → IsRowOn n s a → IsCombination n (IsUnitOn n s) a
from_units n s a p = made_before n s n (omega arith) a p (λ k past. let w = p.row.width in get_or_past a k 0 (omega arith))

-- each row of n words is 0 outside the first n positions
pub row_on_all : (n : ℕ) (a : List ℕ) → IsRow n a → IsRowOn n (2 ^ n - 1) a
row_on_all n a row = record {
  row = row;
  hidden = λ k out. elim (cases_lt k n) [
    | inl lt ↦ absurd (in_not_out (2 ^ n - 1) k (ap (λ x. x == 1) (bit_at_ones n k lt)) out)
    | inr ge ↦ let w = row.width in get_or_past a k 0 (omega arith)
  ];
}

pub rows_on_span : (n s : ℕ) → SameModule n (IsRowOn n s) (IsUnitOn n s)
rows_on_span n s = record {
  there = within_from_generators n (IsRowOn n s) (IsUnitOn n s) (units_are_rows n s) (λ v p. from_units n s v p);
  back = spans_more n (IsUnitOn n s) (IsRowOn n s) (λ u h. let e = h.is in rw e (unit_on n s h.position h.there));
}

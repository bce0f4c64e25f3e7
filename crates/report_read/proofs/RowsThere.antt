-- The rows of a basis are rows of a report.
use Rattle.std.proofs.Common.{◌≡◌, ◌≢◌, ℕ, ◌<◌, ◌≤◌, ◌^◌, List, [], ◌∷◌, All, sym, subst, arith, inl, inr}
use Rattle.std.specs.Prelude.{◌⊎◌, slice_index}
use Rattle.std.proofs.lemmas.Bool.{cases_eq}
use Rattle.std.specs.List.{AllByRecursion}
use Rattle.std.proofs.lemmas.List.Elements.{All-head, All-tail}
use Rattle.std.proofs.lemmas.Nat.{pow_below, pow_pos}
use Rattle.word_rows.specs.Rows.{lead}
use Rattle.row_modules.specs.Bases.{IsLeadingBasis}
use Rattle.report_text.specs.declared.names.Name.{Name}
use Rattle.report_text.specs.Names.{IsSeenAt}
use Rattle.report_read.proofs.LinesThere.{IsRowThere}

pub power_small : (power : ℕ) → power < 64 → 2 ^ power ≤ 2 ^ 63
power_small power small = by (cases_eq power 63)
  where
    by : (power ≡ 63) ⊎ (power ≢ 63) → 2 ^ power ≤ 2 ^ 63
    by (inl e) = subst (λ (n : ℕ). 2 ^ n ≤ 2 ^ 63) (sym e) (omega arith)
    by (inr e) = omega (arith, pow_below power 63 (omega (arith, e, small)))

-- the rows of a basis are rows of a report
pub rows_there : (names : List Name) (entry : ℕ) (rows : List (List ℕ)) → IsLeadingBasis 17 rows
    → All (λ row. lead row < 16) rows
    → All (λ row. (k : ℕ) → k < 16 → slice_index row k ≢ 0 → IsSeenAt names entry k) rows
    → AllByRecursion (IsRowThere names entry) rows
rows_there names entry [] basis named seen = tt
rows_there names entry (row ∷ rows) basis named seen = (
  record {
    is_row = basis.0.is_row;
    some = omega (arith, basis.0.is_pivot, pow_pos basis.0.power);
    small = omega (arith, basis.0.is_pivot, power_small basis.0.power basis.0.small);
    named = All-head (λ r. lead r < 16) row rows named;
    seen = All-head (λ r. (k : ℕ) → k < 16 → slice_index r k ≢ 0 → IsSeenAt names entry k) row rows seen;
  },
  rows_there names entry rows basis.1 (All-tail (λ r. lead r < 16) row rows named)
      (All-tail (λ r. (k : ℕ) → k < 16 → slice_index r k ≢ 0 → IsSeenAt names entry k) row rows seen),
)

-- How many rows points tell.
use Rattle.std.proofs.Common.{◌≡◌, ℕ, ◌+◌, ◌<◌, ◌≤◌, List, [], ◌∷◌, length, take, get_or, inl, inr, sym, ap, ◌∙◌, arith}
use Rattle.std.specs.Prelude.{sum_by, All}
use Rattle.std.proofs.lemmas.Bool.{cases_lt}
use Rattle.std.proofs.lemmas.Grind.{not_there}
use Rattle.std.proofs.lemmas.List.Sums.{sum_by_more}
use Rattle.word_rows.specs.Rows.{lead}
use Rattle.row_modules.specs.Bases.{IsLeadingBasis}
use Rattle.flow_points.specs.Walks.{most_points}
use Rattle.report_text.specs.Reports.{AreRowsAt, AreRowsAtState}
use Rattle.report_text.specs.declared.names.Name.{Name}
use Rattle.report_text.specs.declared.points.PointRows.{PointRows}
use Rattle.report_text.specs.declared.points.PointState.{PointState}
use Rattle.report_text.specs.declared.points.PointState.TheVariants.{Unreached, Rows}
use Rattle.report_text.specs.declared.reports.Report.{Report}
use Rattle.analyser_core.specs.Reports.{IsReportOver}
use Rattle.analyser_core.specs.declared.cert_line.CertLine.{CertLine}
use Rattle.order_answers.specs.GenText.{rows_told}

-- leads rise, and stay below the width
rows_after : (n : ℕ) (row : List ℕ) (rest : List (List ℕ)) → IsLeadingBasis n (row ∷ rest) → length (row ∷ rest) + lead row ≤ n
rows_after n row [] h = let within = h.0.within in omega arith
rows_after n row (next ∷ rest) h =
    let more = rows_after n next rest h.1 in
    let later : lead row < lead next = h.0.later 0 next (omega arith) in
    omega arith

few_rows : (n : ℕ) (rows : List (List ℕ)) → IsLeadingBasis n rows → length rows ≤ n
few_rows n [] h = omega arith
few_rows n (row ∷ rest) h = let more = rows_after n row rest h in omega arith

few_told : (names : List Name) (p : ℕ) (state : PointState) → AreRowsAtState names p state → rows_told state ≤ 17
few_told names p Unreached h = omega arith
few_told names p (Rows rows) h = few_rows 17 rows h.basis

pub each_tells_few : (names : List Name) (points : List PointRows) → ∥ All (AreRowsAt names) points ∥₁ →
    All (λ point. rows_told point.state ≤ 17) points
each_tells_few names points h k d below =
    let point = get_or points k d in
    elim (cases_lt 17 (rows_told point.state)) [
      | inl more ↦ absurd (not_there h (λ all.
          let few = few_told names point.proc_entry point.state (all k d below) in omega arith))
      | inr few ↦ few
    ]

pub few_points : (bytes list : List ℕ) (report : Report) (certs : List CertLine) → IsReportOver bytes list report certs →
    length report.points ≤ most_points
few_points bytes list report certs h =
    let few = h.lifted.accepted.accepted.has_points.are.few in
    let same = h.is_report.count in
    omega arith

-- a sum over points, and over one point more
pub summed_more : (f : PointRows → ℕ) (points : List PointRows) (i old new : ℕ) (point : PointRows) → i < length points →
    point ≡ get_or points i point → old ≡ sum_by f (take i points) → new ≡ old + f point → new ≡ sum_by f (take (i + 1) points)
summed_more f points i old new point below at so_far more =
    more ∙ ap (λ n. n + f point) so_far ∙ ap (λ x. sum_by f (take i points) + f x) at ∙ sym (sum_by_more f points i point below)

-- What is judged to be a report has the text of its lines.
use Rattle.std.proofs.Common.{◌≡◌, ℕ, ◌+◌, Bool, true, false, cond, List, [], ◌∷◌, ◌++◌, Ok, Err, refl, sym, subst, ap, ◌∙◌}
use Rattle.std.specs.List.{join_with_byte}
use Rattle.std.proofs.lemmas.List.{append-nil}
use Rattle.report_text.specs.declared.points.PointState.TheVariants as states
use Rattle.report_text.specs.declared.reports.Report.{Report}
use Rattle.report_lines.specs.Lines.{Line, IsLine, is_relation, line_text}
use Rattle.report_read.specs.declared.draft.Draft.{Draft}
use Rattle.report_read.specs.declared.draft.Place.{Place}
use Rattle.report_read.specs.declared.draft.Place.TheVariants as places
use Rattle.report_read.specs.Drafts.{are_wanted, closed, closed_at}
use Rattle.report_read.specs.Judging.{IsEndJudged, IsJudged, IsLineJudged, IsNext, before, rows, unfinished, whole, goes_on, refused}
use Rattle.report_read.specs.Telling.{Outcome}
use Rattle.refusals.specs.declared.report.ReportRefusal.{ReportRefusal}
use Rattle.refusals.specs.declared.report.ReportRefusal.TheVariants as refusals
use Rattle.report_read.proofs.Kept.{at}
use Rattle.report_read.proofs.Left.{IsLeft}
use Rattle.report_read.proofs.LeftMore.{behind_rows}
use Rattle.report_read.proofs.Reaching.{ReachesAt, Reaches, untold}
use Rattle.report_read.proofs.ReachedBy.{step_at}

-- rows that stand last are told without a line
pub unclosed : (d : Draft) (place : Place) (report : Report) (text : List ℕ) → d.place ≡ place
    → Reaches (closed_at d place) report text → ReachesAt d place report text
unclosed d (places.Rows entry address line rs) report text is r =
    untold d (places.Rows entry address line rs) (at entry address (states.Rows rs)) entry address report text text
    (λ certs points left. behind_rows d.tracked.names (are_wanted d) entry address rs certs points text left) r
unclosed d places.Top report text is r = subst (λ (p : Place). ReachesAt d p report text) is r
unclosed d (places.Procedure entry count) report text is r = subst (λ (p : Place). ReachesAt d p report text) is r
unclosed d (places.Point entry address line) report text is r = subst (λ (p : Place). ReachesAt d p report text) is r
unclosed d (places.Told entry address) report text is r = subst (λ (p : Place). ReachesAt d p report text) is r
unclosed d places.End report text is r = subst (λ (p : Place). ReachesAt d p report text) is r

pub step : (k : ℕ) (d : Draft) (report : Report) (text : List ℕ) (line : Line) (next : Draft) → IsLine line
    → IsNext k d line next → Reaches next report text → Reaches d report (line_text line ++ 10 ∷ text)
step k d report text line next fits is reach =
    by (is_relation line) (step_at k (before d line) report text (before d line).place line next fits is.allowed is.ordered is.becomes reach)
  where
    by : (b : Bool) → Reaches (cond b d (closed d)) report (line_text line ++ 10 ∷ text)
        → Reaches d report (line_text line ++ 10 ∷ text)
    by true r = r
    by false r = unclosed d d.place report (line_text line ++ 10 ∷ text) refl r

abbrev pub okay : Report → Outcome
okay report = Ok report

abbrev pub wrong : ReportRefusal → Outcome
wrong refusal = Err refusal

pub found_at_end : (k : ℕ) (d : Draft) (rest : List ℕ) (report : Report) → IsEndJudged k d rest (Ok report)
    → Reaches d report rest
found_at_end k d rest report (rows n w e) = let f : okay report ≡ wrong (refusals.NotReduced n) = e in absurd cc
found_at_end k d rest report (unfinished fine w e) = let f : okay report ≡ wrong (refusals.Syntax k) = e in absurd cc
found_at_end k d rest report (whole q ended empty is e) =
    let f : okay report ≡ okay q = e in
    let same : report ≡ q = cc in
    record {
      certs = [];
      points = [];
      version_is = ap (λ (x : Report). x.version) same ∙ is.version_is;
      tracked_is = ap (λ (x : Report). x.tracked) same ∙ is.tracked_is;
      certs_are = ap (λ (x : Report). x.certs) same ∙ is.certs_are ∙ sym (append-nil d.certs);
      points_are = ap (λ (x : Report). x.points) same ∙ is.points_are ∙ sym (append-nil d.points);
      left = subst (λ (p : Place). IsLeft d.tracked.names (are_wanted d) p [] [] rest) (sym ended) (record { no_certs = refl; no_points = refl; no_text = empty });
    }

pub found : (parts : List (List ℕ)) (k : ℕ) (d : Draft) (report : Report) → IsJudged parts k d (Ok report)
    → Reaches d report (join_with_byte 10 parts)
found [] k d report judged = absurd judged
found (rest ∷ []) k d report judged = found_at_end k d rest report judged
found (piece ∷ next ∷ parts) k d report judged = by (λ e j. found (next ∷ parts) (k + 1) e report j) judged
  where
    by : ((e : Draft) → IsJudged (next ∷ parts) (k + 1) e (Ok report) → Reaches e report (join_with_byte 10 (next ∷ parts)))
        → IsLineJudged k d piece (λ e. IsJudged (next ∷ parts) (k + 1) e (Ok report)) (Ok report)
        → Reaches d report (piece ++ 10 ∷ join_with_byte 10 (next ∷ parts))
    by later (goes_on line e fits is n j) =
        subst (λ (p : List ℕ). Reaches d report (p ++ 10 ∷ join_with_byte 10 (next ∷ parts))) (sym is)
        (step k d report (join_with_byte 10 (next ∷ parts)) line e fits n (later e j))
    by later (refused refusal r e) = let f : okay report ≡ wrong refusal = e in absurd cc

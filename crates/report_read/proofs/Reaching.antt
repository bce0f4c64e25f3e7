-- What a report has, from what is left of it behind a place.
use Rattle.std.proofs.Common.{◌≡◌, ℕ, List, [], ◌∷◌, ◌++◌, append_assoc, Some, sym, ◌∙◌}
use Rattle.report_text.specs.declared.certs.ReportCert.{ReportCert}
use Rattle.report_text.specs.declared.names.Tracked.{Tracked}
use Rattle.report_text.specs.declared.points.PointRows.{PointRows}
use Rattle.report_text.specs.declared.reports.Report.{Report}
use Rattle.report_text.specs.Text.{nl, rel_text}
use Rattle.report_lines.specs.Lines.{Rel, line_text}
use Rattle.report_lines.specs.Relations.{IsRelation, IsRowOf}
use Rattle.report_lines.specs.Terms.{Term}
use Rattle.report_read.specs.declared.draft.Draft.{Draft}
use Rattle.report_read.specs.declared.draft.Place.{Place}
use Rattle.report_read.specs.declared.draft.Place.TheVariants as places
use Rattle.report_read.specs.Drafts.{are_wanted, wanted_in}
use Rattle.report_read.proofs.Left.{IsLeft, IsLeftBehind}
use Rattle.report_read.proofs.RelationTexts.{rel_line}

-- the report is what the draft has, and what is left of it behind the place has this text
pub record ReachesFrom (version : ℕ) (tracked : Tracked) (has_certs : List ReportCert) (has_points : List PointRows) (place : Place) (report : Report) (text : List ℕ) : Type 0 where
  pub certs : List ReportCert
  pub points : List PointRows
  pub version_is : report.version ≡ version
  pub tracked_is : report.tracked ≡ tracked
  pub certs_are : report.certs ≡ has_certs ++ certs
  pub points_are : report.points ≡ has_points ++ points
  pub left : IsLeft tracked.names (wanted_in version tracked.names) place certs points text

abbrev pub ReachesAt : Draft → Place → Report → List ℕ → Type 0
ReachesAt d place report text = ReachesFrom d.version d.tracked d.certs d.points place report text

abbrev pub Reaches : Draft → Report → List ℕ → Type 0
Reaches d report text = ReachesAt d d.place report text

-- the same rows left behind a place of the same points and certificates
pub moved : (d : Draft) (here there : Place) (report : Report) (text more : List ℕ)
    → ((certs : List ReportCert) (points : List PointRows) → IsLeft d.tracked.names (are_wanted d) there certs points text → IsLeft d.tracked.names (are_wanted d) here certs points more)
    → ReachesAt d there report text → ReachesAt d here report more
moved d here there report text more step r = record {
  certs = r.certs;
  points = r.points;
  version_is = r.version_is;
  tracked_is = r.tracked_is;
  certs_are = r.certs_are;
  points_are = r.points_are;
  left = step r.certs r.points r.left;
}

-- a point less is told
pub untold : (d : Draft) (here : Place) (q : PointRows) (entry address : ℕ) (report : Report) (text more : List ℕ)
    → ((certs : List ReportCert) (points : List PointRows) → IsLeftBehind d.tracked.names (are_wanted d) (Some entry) certs points text → IsLeft d.tracked.names (are_wanted d) here certs (q ∷ points) more)
    → Reaches (record d { points = d.points ++ q ∷ []; place = places.Told entry address }) report text
    → ReachesAt d here report more
untold d here q entry address report text more step r = record {
  certs = r.certs;
  points = q ∷ r.points;
  version_is = r.version_is;
  tracked_is = r.tracked_is;
  certs_are = r.certs_are;
  points_are = r.points_are ∙ append_assoc d.points (q ∷ []) r.points;
  left = step r.certs r.points r.left;
}

pub row_line : (d : Draft) (entry : ℕ) (terms : List Term) (c : ℕ) (row : List ℕ) → IsRelation terms c
    → IsRowOf d.tracked.names entry terms c row → line_text (Rel terms c) ++ nl ≡ rel_text d.tracked.names row
row_line d entry [] c row fits is = absurd fits
row_line d entry (t ∷ terms) c row fits is = sym (rel_line d.tracked.names row t terms c is.terms_are is.constant_is)

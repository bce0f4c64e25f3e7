-- The lines of a report's points are judged to tell these.
use Rattle.std.proofs.Common.{◌≡◌, ◌≢◌, ℕ, ◌<◌, ◌^◌, List, [], ◌∷◌, ◌++◌, All, map, append_assoc, Some, None, Ok, refl, sym, ap, ◌∙◌, arith, inl, inr}
use Rattle.std.specs.Prelude.{◌⊎◌}
use Rattle.std.specs.List.{AllByRecursion, AllPairs}
use Rattle.std.proofs.lemmas.List.{append-nil}
use Rattle.std.proofs.lemmas.List.Elements.{recursion_from_All}
use Rattle.report_text.specs.declared.certs.ReportCert.{ReportCert}
use Rattle.report_text.specs.declared.names.Name.{Name}
use Rattle.report_text.specs.declared.points.PointRows.{PointRows}
use Rattle.report_text.specs.declared.reports.Report.{Report}
use Rattle.report_text.specs.Certificates.{site_of}
use Rattle.report_text.specs.Reports.{AreRowsAt, Ascend}
use Rattle.report_text.specs.Text.{points_text}
use Rattle.report_lines.specs.Parts.{parts_of}
use Rattle.report_read.specs.declared.draft.Draft.{Draft}
use Rattle.report_read.specs.declared.draft.Place.TheVariants as places
use Rattle.report_read.specs.Drafts.{wanted_in}
use Rattle.report_read.specs.Judging.{IsJudged}
use Rattle.report_read.specs.Telling.{begun}
use Rattle.report_read.specs.Written.{IsOfWords}
use Rattle.report_read.proofs.WholeCerts.{no_certs}
use Rattle.report_read.proofs.Left.{ending, opening_of_next}
use Rattle.report_read.proofs.LinesAgain.{Closes}
use Rattle.report_read.proofs.Sites.{other_opened, sites}
use Rattle.report_read.proofs.PointRuns.{AscendFrom, ascend_from, here, IsPointThere, GoesOn, end_run, new_run, same_run}

module _ (report : Report) (words : IsOfWords report) (distinct : AllPairs (λ (a : Name) b. a ≢ b) report.tracked.names) where
  abbrev names : List Name
  names = report.tracked.names

  abbrev registers : List ℕ
  registers = wanted_in report.version report.tracked.names

  told_run : (points : List PointRows) (b a k : ℕ) (d : Draft) (certs : List ReportCert) (seen : List PointRows) (later : List ReportCert)
      → Closes d (here report words distinct certs seen (places.Told b a))
      → certs ++ later ≡ report.certs → seen ++ points ≡ report.points → map site_of later ≡ sites registers (Some b) points
      → AscendFrom b a points → AllByRecursion (IsPointThere report words distinct) points
      → IsJudged (parts_of 10 (points_text names later (Some b) points ++ ending)) k d (Ok report)
  told_run [] b a k d certs seen later closes is all are ascend there =
      end_run report words distinct (places.Told b a) k d certs seen closes (sym (append-nil certs) ∙ ap (λ (cs : List ReportCert). certs ++ cs) (sym (no_certs later are)) ∙ is) (sym (append-nil seen) ∙ all) refl tt
  told_run (q ∷ points) b a k d certs seen later closes is all are ascend there =
      by (λ k2 d2 certs2 later2 closes2 is2 are2. told_run points q.proc_entry q.address k2 d2 certs2 (seen ++ q ∷ []) later2 closes2 is2 (append_assoc seen (q ∷ []) points ∙ all) are2 ascend.1 there.1) ascend.0
    where
      by : GoesOn report words distinct q seen points → (b < q.proc_entry) ⊎ ((b ≡ q.proc_entry) × (a < q.address))
          → IsJudged (parts_of 10 (points_text names later (Some b) (q ∷ points) ++ ending)) k d (Ok report)
      by goes (inl l) =
          new_run report words distinct (places.Told b a) (Some b) q points k d certs seen later closes refl l (other_opened registers b q.proc_entry (λ e. omega arith)) (opening_of_next b q.proc_entry l)
          is are ascend.1 there.0 goes
      by goes (inr r) = same_run report words distinct b a q points k d certs seen later closes r.0 r.1 is are ascend.1 there.0 goes

  lines_run : (points : List PointRows) → points ≡ report.points → map site_of report.certs ≡ sites registers None points
      → Ascend points → AllByRecursion (IsPointThere report words distinct) points
      → IsJudged (parts_of 10 (points_text names report.certs None points ++ ending)) 3 (begun report.version report.tracked) (Ok report)
  lines_run [] all are ascend there =
      end_run report words distinct places.Top 3 (begun report.version report.tracked) [] [] (record { fine = tt; told_so = refl }) (sym (no_certs report.certs are)) all refl tt
  lines_run (q ∷ points) all are ascend there =
      new_run report words distinct places.Top None q points 3 (begun report.version report.tracked) [] [] report.certs (record { fine = tt; told_so = refl }) refl tt refl refl refl are (ascend_from q points ascend) there.0
      (λ k2 d2 certs2 later2 closes2 is2 are2. told_run points q.proc_entry q.address k2 d2 certs2 (q ∷ []) later2 closes2 is2 all are2 (ascend_from q points ascend) there.1)

  points_there : (points : List PointRows) → AllByRecursion (λ q. q.proc_entry < 2 ^ 64) points
      → AllByRecursion (λ q. q.address < 2 ^ 64) points → AllByRecursion (AreRowsAt names) points
      → AllByRecursion (IsPointThere report words distinct) points
  points_there [] p a r = tt
  points_there (q ∷ points) p a r = (record { procedure = p.0; address = a.0; rows = r.0 }, points_there points p.1 a.1 r.1)

  pub points_run : map site_of report.certs ≡ sites registers None report.points → Ascend report.points
      → All (AreRowsAt names) report.points
      → IsJudged (parts_of 10 (points_text names report.certs None report.points ++ ending)) 3 (begun report.version report.tracked) (Ok report)
  points_run are ascend rows =
      lines_run report.points refl are ascend
      (points_there report.points (recursion_from_All (λ q. q.proc_entry < 2 ^ 64) report.points words.procedures)
      (recursion_from_All (λ q. q.address < 2 ^ 64) report.points words.addresses) (recursion_from_All (AreRowsAt names) report.points rows))

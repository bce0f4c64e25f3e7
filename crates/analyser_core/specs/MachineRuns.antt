-- What a report says of runs of the machine (`run_paths`).
--
--   RowsAreZero lift report run i   at the moment i each row of the report at the run's point is 0 on the machine's words
--   IsToldAt lift report run i      at the moment i the run follows the path that it spells; each row of the report at its
--                                   point is 0 on the machine's words; and where it is at a return, each tracked register
--                                   that is certified in the last activation's procedure has its word of the moment when that
--                                   activation opened
--   IsReportOfLift image lift report certs
--                                   the lift is that of the image, and the report and the certificates are those of its program
--   HasCertWord report p r word     the report has this word for the register r in the procedure p
--   IsGivenBack report p r          it has `granted` or `never` for it
--   AreGivenBack report spared      each register of the set is given back, in the report's words, in the procedure of each of
--                                   its points
--   TellsOfRuns bytes list report certs
--                                   the bytes and the list are accepted, with an image and its lift; the report is of them; and
--                                   a run of the image that keeps the discipline up to a moment, but for what it asks at
--                                   returns of registers that the report's words give back, is told at each one up to it
use Rattle.std.specs.Prelude.{◌≡◌, ◌⊎◌, ℕ, ◌≤◌, Bool, true, List, ◌∷◌, All, Contains, map, Some, slice_get}
use Rattle.elf_image.specs.declared.image.Image.{Image}
use Rattle.word_rows.specs.Rows.{dot}
use Rattle.flow_points.specs.declared.code_points.CodePoint.{CodePoint}
use Rattle.flow_points.specs.declared.code_points.Flow.TheVariants.{Return}
use Rattle.report_text.specs.declared.certs.CertWord.{CertWord}
use Rattle.report_text.specs.declared.certs.CertWord.TheVariants.{Granted, Never}
use Rattle.report_text.specs.declared.points.PointRows.{PointRows}
use Rattle.report_text.specs.declared.points.PointState.TheVariants.{Rows}
use Rattle.report_text.specs.declared.reports.Report.{Report}
use Rattle.rv_step.specs.Harts.{Hart}
use Rattle.run_paths.specs.Lifts.{Lift, IsLiftOf}
use Rattle.run_paths.specs.Activations.{Activation, activations_at, point_at, state_of}
use Rattle.run_paths.specs.Discipline.{IsRunTo}
use Rattle.run_paths.specs.Follows.{Follows}
use Rattle.run_paths.specs.Relations.{KeepsDisciplineBut, RestoresCertified}
use Rattle.analyser_core.specs.Accepted.{IsAccepted}
use Rattle.analyser_core.specs.Certified.{told_of}
use Rattle.analyser_core.specs.Reports.{IsReportOf}
use Rattle.analyser_core.specs.declared.cert_line.CertLine.{CertLine}

pub record RowsAreZero (lift : Lift) (report : Report) (run : ℕ → Hart) (i : ℕ) : Type 0 where
  pub at : CodePoint
  pub is_at : point_at lift run i ≡ Some at
  pub last : Activation
  pub earlier : List Activation
  pub are : activations_at lift run i ≡ last ∷ earlier
  pub zero : (u : ℕ) (point : PointRows) (rows : List (List ℕ)) → slice_get report.points u ≡ Some point
      → point.proc_entry ≡ at.point.proc_entry → point.address ≡ at.point.address → point.state ≡ Rows rows
      → All (λ row. dot row (state_of lift last (run i).registers (run i).memory) ≡ 0) rows

pub record IsToldAt (lift : Lift) (report : Report) (run : ℕ → Hart) (i : ℕ) : Type 0 where
  pub follows : Follows lift run i
  pub rows : RowsAreZero lift report run i
  pub restored : (at : CodePoint) → point_at lift run i ≡ Some at → at.flow ≡ Return → RestoresCertified lift run i

pub record IsReportOfLift (image : Image) (lift : Lift) (report : Report) (certs : List CertLine) : Type 0 where
  pub is_lift : IsLiftOf image lift
  pub is_report : IsReportOf lift.program lift.points lift.names report certs

abbrev pub HasCertWord : Report → ℕ → ℕ → CertWord → Type 0
HasCertWord report p r word = Contains (map told_of report.certs) (p, r, word)

abbrev pub IsGivenBack : Report → ℕ → ℕ → Type 0
IsGivenBack report p r = HasCertWord report p r Granted ⊎ HasCertWord report p r Never

abbrev pub AreGivenBack : Report → (ℕ → Bool) → Type 0
AreGivenBack report spared = (r : ℕ) → spared r ≡ true → All (λ point. IsGivenBack report point.proc_entry r) report.points

pub record TellsOfRuns (bytes list : List ℕ) (report : Report) (certs : List CertLine) : Type 0 where
  pub image : Image
  pub lift : Lift
  pub accepted : IsAccepted bytes list image lift.points lift.names
  pub of_lift : IsReportOfLift image lift report certs
  pub runs : (spared : ℕ → Bool) (run : ℕ → Hart) (n : ℕ) → AreGivenBack report spared → IsRunTo image run n
      → KeepsDisciplineBut lift spared run n → (i : ℕ) → i ≤ n → IsToldAt lift report run i

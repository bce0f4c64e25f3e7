-- Where runs of the machine come, by the report of an analysis.
--
--   IsAtRows lift report run i    at the moment i the run is at a point that it reaches in the program, and no point of the report
--                                 with the same procedure and address is told as unreached
--   ReachesRows bytes list report certs
--                                 the bytes and the list are accepted, with an image and its lift; the report is of them; and a run
--                                 of the image that keeps the discipline up to a moment, but for what it asks at returns of registers
--                                 that the report's words give back, is so at each one up to it
--   RunsAreWhereRowsAre           so it is of each report of an analysis
use Rattle.std.specs.Prelude.{◌≡◌, ◌≢◌, ℕ, ◌≤◌, Bool, List, Some, slice_get}
use Rattle.elf_image.specs.declared.image.Image.{Image}
use Rattle.affine_prog.specs.Relations.{IsReached}
use Rattle.flow_points.specs.declared.code_points.CodePoint.{CodePoint}
use Rattle.report_text.specs.declared.points.PointRows.{PointRows}
use Rattle.report_text.specs.declared.points.PointState.TheVariants.{Unreached}
use Rattle.report_text.specs.declared.reports.Report.{Report}
use Rattle.rv_step.specs.Harts.{Hart}
use Rattle.run_paths.specs.Lifts.{Lift, node}
use Rattle.run_paths.specs.Activations.{point_at}
use Rattle.run_paths.specs.Discipline.{IsRunTo}
use Rattle.run_paths.specs.Relations.{KeepsDisciplineBut}
use Rattle.analyser_core.specs.Accepted.{IsAccepted}
use Rattle.analyser_core.specs.MachineRuns.{AreGivenBack, IsReportOfLift}
use Rattle.analyser_core.specs.Reports.{IsReportOver}
use Rattle.analyser_core.specs.declared.cert_line.CertLine.{CertLine}

pub record IsAtRows (lift : Lift) (report : Report) (run : ℕ → Hart) (i : ℕ) : Type 0 where
  pub at : CodePoint
  pub is_at : point_at lift run i ≡ Some at
  pub reached : IsReached lift.program (node lift at.point)
  pub told : (u : ℕ) (point : PointRows) → slice_get report.points u ≡ Some point → point.proc_entry ≡ at.point.proc_entry
      → point.address ≡ at.point.address → point.state ≢ Unreached

pub record ReachesRows (bytes list : List ℕ) (report : Report) (certs : List CertLine) : Type 0 where
  pub image : Image
  pub lift : Lift
  pub accepted : IsAccepted bytes list image lift.points lift.names
  pub of_lift : IsReportOfLift image lift report certs
  pub runs : (spared : ℕ → Bool) (run : ℕ → Hart) (n : ℕ) → AreGivenBack report spared → IsRunTo image run n
      → KeepsDisciplineBut lift spared run n → (i : ℕ) → i ≤ n → IsAtRows lift report run i

abbrev pub RunsAreWhereRowsAre : Type 0
RunsAreWhereRowsAre =
    (bytes list : List ℕ) (report : Report) (certs : List CertLine) → IsReportOver bytes list report certs
    → ReachesRows bytes list report certs

-- Runs that are checked against the report of an analysis of their own file.
--
--   IsOwnCheck image points offsets report regs limit status text
--                                 a run was checked against this report, with its verdict's status and text; and where the watch
--                                 of relations has a finding, a watch of stores, of returns or of code has one of a lower index
--   IsRunOfOwn bytes report regs limit status text
--                                 so it is for some code and offsets of the file
--   OwnReportsFailForCause        over the text of a report of an analysis, what `run` answers for the file's code is such a check:
--                                 the text is neither refused nor strange
--   OwnRunsFailForCause           so is what `run` answers for the file and the text, where neither has too many bytes
use Rattle.std.specs.Prelude.{◌≡◌, ℕ, ◌≤◌, List, length, Option, None, Some}
use Rattle.elf_image.specs.declared.image.Image.{Image}
use Rattle.flow_points.specs.PointLists.{FlowPoints}
use Rattle.frame_offsets.specs.Frames.{AreOffsetsOf}
use Rattle.report_text.specs.Text.{text_of}
use Rattle.report_text.specs.declared.reports.Report.{Report}
use Rattle.run_watch.specs.Runs.{verdict}
use Rattle.run_watch.specs.declared.context.Found.{Found}
use Rattle.run_verdicts.specs.Relations.{IsCausedEarlier}
use Rattle.run_answers.specs.Answers.{IsChecked, IsRunAnswer}
use Rattle.analyser_core.specs.Accepted.{most_bytes}
use Rattle.analyser_core.specs.Reports.{IsReportOver}
use Rattle.analyser_core.specs.declared.cert_line.CertLine.{CertLine}
use Rattle.refusal_lines.specs.Lines.{most_report_bytes}
use Rattle.order_answers.specs.FileRefusals.{IsCode}
use Rattle.order_answers.specs.ReportAnswers.{IsRun}

pub record IsOwnCheck (image : Image) (points : FlowPoints) (offsets : List (Option ℕ)) (report : Report) (regs : List ℕ)
    (limit status : ℕ) (text : List ℕ) : Type 0 where
  pub checked : IsChecked image points offsets report regs limit status text
  pub caused : (found : Found) → verdict 1 None checked.seen ≡ Some found → IsCausedEarlier checked.seen found

pub record IsRunOfOwn (bytes : List ℕ) (report : Report) (regs : List ℕ) (limit status : ℕ) (text : List ℕ) : Type 0 where
  pub image : Image
  pub points : FlowPoints
  pub offsets : List (Option ℕ)
  pub code : IsCode bytes image points
  pub offsets_are : AreOffsetsOf points offsets
  pub check : IsOwnCheck image points offsets report regs limit status text

abbrev pub OwnReportsFailForCause : Type 0
OwnReportsFailForCause =
    (bytes list : List ℕ) (report : Report) (certs : List CertLine) (image : Image) (points : FlowPoints)
    (offsets : List (Option ℕ)) (regs : List ℕ) (limit status : ℕ) (text : List ℕ)
    → IsReportOver bytes list report certs → IsCode bytes image points → AreOffsetsOf points offsets
    → IsRunAnswer image points offsets (text_of report) regs limit status text
    → IsOwnCheck image points offsets report regs limit status text

abbrev pub OwnRunsFailForCause : Type 0
OwnRunsFailForCause =
    (bytes list : List ℕ) (report : Report) (certs : List CertLine) (regs : List ℕ) (limit status : ℕ) (text : List ℕ)
    → IsReportOver bytes list report certs → length bytes ≤ most_bytes → length (text_of report) ≤ most_report_bytes
    → IsRun regs limit bytes (text_of report) status text
    → IsRunOfOwn bytes report regs limit status text

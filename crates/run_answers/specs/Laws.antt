-- Laws of the answers of the order `run`.
--
--   IsVerdictStatus status    it is 0 or 7
--   KnownReportsAreChecked    where bytes are the text of a known report of words, a run is checked against that report
--   CheckedRunsHaveVerdicts   the status of a run that is checked is 0 or 7
--   IsNameOf procedures name  the name is a register's, or a slot of one of these procedures
--   IsPointOf points told     the point that is told of is one of these
--   IsOfFile points report    the procedures of the report's slots, and its points, are those of the file
--   FilesReportsAreKnown      such a report is known
use Rattle.std.specs.Prelude.{◌≡◌, ◌⊎◌, ℕ, List, All, Contains, Option}
use Rattle.elf_image.specs.declared.image.Image.{Image}
use Rattle.flow_points.specs.PointLists.{FlowPoints, places_of}
use Rattle.flow_points.specs.Walks.{point}
use Rattle.flow_points.specs.declared.code_points.CodePoint.{CodePoint}
use Rattle.report_text.specs.Text.{text_of}
use Rattle.report_text.specs.declared.names.Name.{Name}
use Rattle.report_text.specs.declared.names.Name.TheVariants.{Register, Slot}
use Rattle.report_text.specs.declared.points.PointRows.{PointRows}
use Rattle.report_text.specs.declared.reports.Report.{Report}
use Rattle.report_read.specs.Written.{IsOfWords}
use Rattle.run_answers.specs.Answers.{IsChecked, HasNoStranger, IsRunAnswer}

abbrev pub IsVerdictStatus : ℕ → Type 0
IsVerdictStatus status = (status ≡ 0) ⊎ (status ≡ 7)

abbrev pub KnownReportsAreChecked : Type 0
KnownReportsAreChecked = (image : Image) (points : FlowPoints) (offsets : List (Option ℕ)) (report : Report)
    (bytes regs : List ℕ) (limit status : ℕ) (text : List ℕ) → IsOfWords report → bytes ≡ text_of report
    → HasNoStranger points report → IsRunAnswer image points offsets bytes regs limit status text
    → IsChecked image points offsets report regs limit status text

abbrev pub CheckedRunsHaveVerdicts : Type 0
CheckedRunsHaveVerdicts = (image : Image) (points : FlowPoints) (offsets : List (Option ℕ)) (report : Report)
    (regs : List ℕ) (limit status : ℕ) (text : List ℕ)
    → IsChecked image points offsets report regs limit status text → IsVerdictStatus status

abbrev pub IsNameOf : List ℕ → Name → Type 0
IsNameOf procedures (Register r) = Unit {0}
IsNameOf procedures (Slot p below) = Contains procedures p

abbrev pub IsPointOf : List CodePoint → PointRows → Type 0
IsPointOf points told = Contains (places_of points) (point told.proc_entry told.address)

pub record IsOfFile (points : FlowPoints) (report : Report) : Type 0 where
  pub names : All (IsNameOf points.procedures) report.tracked.names
  pub places : All (IsPointOf points.points) report.points

abbrev pub FilesReportsAreKnown : Type 0
FilesReportsAreKnown = (points : FlowPoints) (report : Report) → IsOfFile points report → HasNoStranger points report

-- What the order `run` answers for an image and the bytes of a report.
--
--   four_kinds              the kinds of the four watches, in their order
--   findings seen           what fresh watches of these kinds find in what is seen of a run
--   status_of found         7 where some watch found something, else 0
--   IsReadIn bytes report   the bytes are the text of the report, and judged to tell it
--   HasNoStranger points report   the report tells of nothing that the file doesn't have
--   IsChecked image points offsets report regs limit status text
--                           the image was run from these registers for at most so many steps, and the text and the status are
--                           those of the verdict of that run over this report
--   IsRunAnswer image points offsets bytes regs limit status text
--                           the bytes are refused as a report; or the report tells of what the file doesn't have; or the
--                           report is known, and a run was checked against it
use Rattle.std.specs.Prelude.{◌≡◌, ◌≢◌, ℕ, List, [], ◌∷◌, map, Option, None, Some, Ok, Err, if◌then◌else◌}
use Rattle.elf_image.specs.declared.image.Image.{Image}
use Rattle.flow_points.specs.PointLists.{FlowPoints}
use Rattle.report_text.specs.Text.{text_of}
use Rattle.report_text.specs.declared.reports.Report.{Report}
use Rattle.report_read.specs.Telling.{IsTextTold}
use Rattle.refusals.specs.declared.report.ReportRefusal.{ReportRefusal}
use Rattle.refusals.specs.declared.report.ReportRefusal.TheVariants.{Memory}
use Rattle.run_watch.specs.Runs.{Sight, IsRunOf, verdict}
use Rattle.report_places.specs.Strangers.{IsStranger}
use Rattle.run_watch.specs.declared.context.Found.{Found}
use Rattle.run_watch.specs.declared.verdicts.RunVerdict.{RunVerdict}
use Rattle.verdict_text.specs.Text.{has_found, verdict_text}
use Rattle.run_answers.specs.Lines.{report_line, stranger_line}

abbrev pub four_kinds : List ℕ
four_kinds = 1 ∷ 2 ∷ 3 ∷ 4 ∷ []

abbrev pub findings : List Sight → List (Option Found)
findings seen = map (λ kind. verdict kind None seen) four_kinds

abbrev pub status_of : List (Option Found) → ℕ
status_of found = if has_found found then 7 else 0

-- the second fact makes the report one: one thing is told of bytes
pub record IsReadIn (bytes : List ℕ) (report : Report) : Type 0 where
  pub text : bytes ≡ text_of report
  pub told : IsTextTold bytes (Ok report)

abbrev pub HasNoStranger : FlowPoints → Report → Type 0
HasNoStranger points report = (address : ℕ) → IsStranger points report.tracked.names report.points (Some address) → ⊥

pub record IsChecked (image : Image) (points : FlowPoints) (offsets : List (Option ℕ)) (report : Report) (regs : List ℕ)
    (limit status : ℕ) (text : List ℕ) : Type 0 where
  pub seen : List Sight
  pub verdict : RunVerdict
  pub run : IsRunOf image points offsets report regs limit seen verdict.steps verdict.stop
  pub found : verdict.found ≡ findings seen
  pub status_is : status ≡ status_of verdict.found
  pub text_is : text ≡ verdict_text verdict

pub data IsRunAnswer (image : Image) (points : FlowPoints) (offsets : List (Option ℕ)) (bytes regs : List ℕ) (limit status : ℕ)
    (text : List ℕ) : Type 0 where
  refused : (refusal : ReportRefusal) → IsTextTold bytes (Err refusal) → refusal ≢ Memory → status ≡ 6 → text ≡ report_line refusal
      → IsRunAnswer image points offsets bytes regs limit status text
  strange : (report : Report) (address : ℕ) → IsReadIn bytes report
      → IsStranger points report.tracked.names report.points (Some address) → status ≡ 6 → text ≡ stranger_line address
      → IsRunAnswer image points offsets bytes regs limit status text
  checked : (report : Report) → IsReadIn bytes report → HasNoStranger points report
      → IsChecked image points offsets report regs limit status text
      → IsRunAnswer image points offsets bytes regs limit status text

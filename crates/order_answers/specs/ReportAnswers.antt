-- What the orders over a file and a report answer, by the contents of both.
--
--   IsUnread bytes report status text   what both orders get for a file that is refused; and where it is accepted, for a report with
--                                     too many bytes
--   IsRun start steps bytes report status text   what `run` answers, with these registers and for at most so many steps
--   IsUpgradeAnswer points report status text   what `upgrade` answers over points: that the bytes are no report's text; that the
--                                     report isn't upgraded; or the text of the report of version 2
--   IsUpgrade bytes report status text   what `upgrade` answers
use Rattle.std.specs.Prelude.{◌≡◌, ◌≢◌, ℕ, ◌<◌, ◌≤◌, List, Option, Err, length}
use Rattle.elf_image.specs.declared.image.Image.{Image}
use Rattle.flow_points.specs.PointLists.{FlowPoints}
use Rattle.frame_offsets.specs.Frames.{AreOffsetsOf}
use Rattle.report_text.specs.Text.{text_of}
use Rattle.report_text.specs.declared.reports.Report.{Report}
use Rattle.report_read.specs.Telling.{IsTextTold}
use Rattle.refusals.specs.declared.report.ReportRefusal as reports
use Rattle.refusals.specs.declared.report.ReportRefusal.{ReportRefusal}
use Rattle.run_answers.specs.Answers.{IsReadIn, IsRunAnswer}
use Rattle.run_answers.specs.Lines.{report_line}
use Rattle.analyser_core.specs.Upgrades.{IsUpgradeOf, IsUpgradeRefusal}
use Rattle.analyser_core.specs.declared.upgrades.UpgradeRefusal as upgrades
use Rattle.analyser_core.specs.declared.upgrades.UpgradeRefusal.{UpgradeRefusal}
use Rattle.order_answers.specs.FileRefusals.{IsRefused, IsCode}
use Rattle.refusal_lines.specs.Lines.{most_report_bytes, report_too_long_line}
use Rattle.order_answers.specs.UpgradeRefusals.{upgrade_line, upgrade_status}

pub data IsUnread (bytes report : List ℕ) : ℕ → List ℕ → Type 0 where
  refused_file : (status : ℕ) (text : List ℕ) → IsRefused bytes status text → IsUnread bytes report status text
  too_long_report : (status : ℕ) (text : List ℕ) (image : Image) (points : FlowPoints) → IsCode bytes image points →
      most_report_bytes < length report → status ≡ 6 → text ≡ report_too_long_line → IsUnread bytes report status text

pub data IsRun (start : List ℕ) (steps : ℕ) (bytes report : List ℕ) : ℕ → List ℕ → Type 0 where
  unread : (status : ℕ) (text : List ℕ) → IsUnread bytes report status text → IsRun start steps bytes report status text
  read : (status : ℕ) (text : List ℕ) (image : Image) (points : FlowPoints) (offsets : List (Option ℕ)) → IsCode bytes image points →
      AreOffsetsOf points offsets → length report ≤ most_report_bytes → IsRunAnswer image points offsets report start steps status text →
      IsRun start steps bytes report status text

pub data IsUpgradeAnswer (points : FlowPoints) (report : List ℕ) : ℕ → List ℕ → Type 0 where
  no_report : (status : ℕ) (text : List ℕ) (refusal : ReportRefusal) → IsTextTold report (Err refusal) → refusal ≢ reports.TheVariants.Memory →
      status ≡ 6 → text ≡ report_line refusal → IsUpgradeAnswer points report status text
  not_upgraded : (status : ℕ) (text : List ℕ) (old : Report) (refusal : UpgradeRefusal) → IsReadIn report old →
      IsUpgradeRefusal points old refusal → refusal ≢ upgrades.TheVariants.Memory → status ≡ upgrade_status refusal →
      text ≡ upgrade_line refusal → IsUpgradeAnswer points report status text
  upgraded : (status : ℕ) (text : List ℕ) (old new : Report) → IsReadIn report old → IsUpgradeOf points old new → status ≡ 0 →
      text ≡ text_of new → IsUpgradeAnswer points report status text

pub data IsUpgrade (bytes report : List ℕ) : ℕ → List ℕ → Type 0 where
  unread : (status : ℕ) (text : List ℕ) → IsUnread bytes report status text → IsUpgrade bytes report status text
  read : (status : ℕ) (text : List ℕ) (image : Image) (points : FlowPoints) → IsCode bytes image points →
      length report ≤ most_report_bytes → IsUpgradeAnswer points report status text → IsUpgrade bytes report status text

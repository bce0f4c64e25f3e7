-- A run that is checked against the report of its own file's analysis.
use Rattle.std.proofs.Common.{◌≡◌, ℕ, ◌≤◌, List, length, Option, refl, sym, ◌∙◌, ap, arith, subst}
use Rattle.elf_image.specs.Refusals.{refusal_of}
use Rattle.elf_image.specs.declared.image.Image.{Image}
use Rattle.flow_points.specs.Flows.{fetches_of}
use Rattle.flow_points.specs.PointLists.{FlowPoints, ArePointsOf}
use Rattle.flow_points.specs.Refusals.{IsFlowRefusal}
use Rattle.frame_offsets.specs.Frames.{AreOffsetsOf}
use Rattle.report_text.specs.Text.{text_of}
use Rattle.report_text.specs.declared.reports.Report.{Report}
use Rattle.run_paths.specs.Lifts.{Lift}
use Rattle.run_verdicts.specs.Relations.{FailuresAreCaused}
use Rattle.run_verdicts.specs.Whole.{IsWatchedRun}
use Rattle.run_answers.specs.Answers.{IsChecked, IsRunAnswer}
use Rattle.run_answers.proofs.FilesReports.{files_are_known}
use Rattle.run_answers.proofs.OwnReports.{known_are_checked}
use Rattle.analyser_core.specs.Accepted.{most_bytes}
use Rattle.analyser_core.specs.MachineRuns.{TellsOfRuns}
use Rattle.analyser_core.specs.declared.cert_line.CertLine.{CertLine}
use Rattle.refusal_lines.specs.Lines.{most_report_bytes}
use Rattle.order_answers.specs.FileRefusals.{IsCode, IsRefused, too_long, no_image, bad_flow}
use Rattle.order_answers.specs.ReportAnswers.{IsRun, IsUnread, read, refused_file, too_long_report, unread}
use Rattle.own_reports.specs.Checked.{IsOwnCheck, IsRunOfOwn}
use Rattle.own_reports.proofs.Known.{of_file, of_words}
use Rattle.own_reports.proofs.OneImage.{one_image}
use Rattle.own_reports.proofs.OnePoints.{one_points}
use Rattle.own_reports.proofs.Truth.{true_report}

module _ (caused : FailuresAreCaused) (bytes list : List ℕ) (report : Report) (certs : List CertLine)
    (tells : TellsOfRuns bytes list report certs) where
  abbrev lift : Lift
  lift = tells.lift

  abbrev image : Image
  image = tells.image

  -- the report's own image and points are those of the file
  own_check : (offsets : List (Option ℕ)) (regs : List ℕ) (limit status : ℕ) (text : List ℕ) → AreOffsetsOf lift.points offsets
      → IsRunAnswer image lift.points offsets (text_of report) regs limit status text
      → IsOwnCheck image lift.points offsets report regs limit status text
  own_check offsets regs limit status text are answer = record {
    checked = checked;
    caused = λ found is. caused image lift report limit checked.seen found watched (true_report image lift report certs tells.of_lift) is;
  }
    where
      points_are : ArePointsOf image lift.points
      points_are = tells.of_lift.is_lift.points_are

      checked : IsChecked image lift.points offsets report regs limit status text
      checked =
          known_are_checked image lift.points offsets report (text_of report) regs limit status text
          (of_words image lift.points lift.names lift.program report certs points_are tells.of_lift.is_report
          tells.accepted.is_tracked.names_are.within) refl
          (files_are_known lift.points report
          (of_file image lift.points lift.names lift.program report certs points_are tells.of_lift.is_report
          tells.accepted.is_tracked.names_are.within)) answer

      watched : IsWatchedRun image lift report limit checked.seen
      watched = record {
        lifts = tells.of_lift.is_lift;
        names = tells.of_lift.is_report.names_are;
        offsets = offsets;
        offsets_are = are;
        regs = regs;
        steps = checked.verdict.steps;
        stop = checked.verdict.stop;
        run = checked.run;
      }

  image_is : (other : Image) (points : FlowPoints) → IsCode bytes other points → image ≡ other
  image_is other points code = one_image image other (tells.accepted.is_image ∙ sym code.is_image)

  pub check_of_code : (other : Image) (points : FlowPoints) (offsets : List (Option ℕ)) (regs : List ℕ) (limit status : ℕ)
      (text : List ℕ) → IsCode bytes other points → AreOffsetsOf points offsets
      → IsRunAnswer other points offsets (text_of report) regs limit status text
      → IsOwnCheck other points offsets report regs limit status text
  check_of_code other points offsets regs limit status text code =
      subst (λ (i : Image). (p : FlowPoints) → ArePointsOf i p → AreOffsetsOf p offsets
      → IsRunAnswer i p offsets (text_of report) regs limit status text → IsOwnCheck i p offsets report regs limit status text)
      (image_is other points code) here points code.has_points.are
    where
      here : (p : FlowPoints) → ArePointsOf image p → AreOffsetsOf p offsets
          → IsRunAnswer image p offsets (text_of report) regs limit status text
          → IsOwnCheck image p offsets report regs limit status text
      here p are =
          subst (λ (q : FlowPoints). AreOffsetsOf q offsets → IsRunAnswer image q offsets (text_of report) regs limit status text
          → IsOwnCheck image q offsets report regs limit status text)
          (one_points (fetches_of image) image.entry lift.points p tells.of_lift.is_lift.points_are are)
          (own_check offsets regs limit status text)

  -- a file of an analysis isn't refused
  not_refused : (status : ℕ) (text : List ℕ) → length bytes ≤ most_bytes → IsRefused bytes status text → ⊥
  not_refused status text short (too_long s t longer is line) = omega (arith, short, longer)
  not_refused status text short (no_image s t refusal fits why is line) =
      let none = ap refusal_of (sym tells.accepted.is_image) ∙ image.accepted in absurd (cc)
  not_refused status text short (bad_flow s t other refusal fits of why is line) =
      tells.accepted.has_points.accepted refusal
      (subst (λ (i : Image). IsFlowRefusal i refusal) (sym (one_image image other (tells.accepted.is_image ∙ sym of))) why)

  none_unread : (status : ℕ) (text : List ℕ) → length bytes ≤ most_bytes → length (text_of report) ≤ most_report_bytes
      → IsUnread bytes (text_of report) status text → ⊥
  none_unread status text short fits (refused_file s t is) = not_refused status text short is
  none_unread status text short fits (too_long_report s t other points code longer is line) = omega (arith, fits, longer)

  pub check_of_run : (regs : List ℕ) (limit status : ℕ) (text : List ℕ) → length bytes ≤ most_bytes
      → length (text_of report) ≤ most_report_bytes → IsRun regs limit bytes (text_of report) status text
      → IsRunOfOwn bytes report regs limit status text
  check_of_run regs limit status text short fits (unread s t is) = absurd (none_unread status text short fits is)
  check_of_run regs limit status text short fits (read s t other points offsets code are small answer) = record {
    image = other;
    points = points;
    offsets = offsets;
    code = code;
    offsets_are = are;
    check = check_of_code other points offsets regs limit status text code are answer;
  }

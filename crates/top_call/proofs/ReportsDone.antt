-- Runs and upgrades whose files and reports nothing refuses are done.
use Rattle.std.proofs.Common.{◌≡◌, ◌≢◌, ◌⊎◌, ℕ, List, Option, Some, None, Ok, Err, refl, subst, arith}
use Rattle.elf_image.specs.declared.image.Image.{Image}
use Rattle.flow_points.specs.PointLists.{FlowPoints}
use Rattle.report_text.specs.declared.reports.Report.{Report}
use Rattle.report_read.proofs.ReportRead.{text_read}
use Rattle.run_answers.specs.Answers.{HasNoStranger}
use Rattle.run_answers.proofs.FilesReports.{files_are_known}
use Rattle.run_answers.proofs.OwnReports.{not_refused, known_are_checked, checked_have_verdicts}
use Rattle.analyser_core.specs.Upgrades.{IsUpgradeRefusal}
use Rattle.analyser_core.specs.declared.refusal.Refusal.TheVariants.{Elf, Flow}
use Rattle.analyser_core.specs.declared.upgrades.UpgradeRefusal.{UpgradeRefusal}
use Rattle.analyser_core.specs.declared.upgrades.UpgradeRefusal.TheVariants.{AlreadyNew, NotAPoint, Heads, Memory}
use Rattle.order_answers.specs.FileRefusals.{IsCode, IsListRefusal, IsRefused, too_long, no_image, bad_flow}
use Rattle.order_answers.specs.ReportAnswers.{IsUnread, refused_file, too_long_report, IsRun, unread, read, no_report, not_upgraded, upgraded, IsUpgrade}
use Rattle.call_ends.specs.Calls.{IsOverBoth}
use Rattle.top_call.specs.Completeness as complete
use Rattle.top_call.specs.Completeness.{IsUnrefused, IsReportFor, IsOld}

pub file_accepted : (bytes : List ℕ) (status : ℕ) (text : List ℕ) → IsUnrefused (IsListRefusal bytes) bytes → IsRefused bytes status text → ⊥
file_accepted bytes status text free (too_long s t longer is line) = let short = free.short in omega arith
file_accepted bytes status text free (no_image s t refusal short why is line) =
    let memory = free.only_memory (Elf refusal) why in absurd (cc)
file_accepted bytes status text free (bad_flow s t image refusal short of why is line) =
    let memory = free.only_memory (Flow refusal) (image, of, why) in absurd (cc)

module _ (bytes told : List ℕ) (free : IsUnrefused (IsListRefusal bytes) bytes) (old : Report) (of : IsReportFor bytes told old) where
  both_read : (status : ℕ) (text : List ℕ) → IsUnread bytes told status text → ⊥
  both_read status text (refused_file s t is) = file_accepted bytes status text free is
  both_read status text (too_long_report s t image points code longer is line) = let short = of.short in omega arith

  known : (image : Image) (points : FlowPoints) → IsCode bytes image points → HasNoStranger points old
  known image points code = files_are_known points old (of.of_file image points code)

  pub run_done : (start : List ℕ) (steps status : ℕ) (text : List ℕ) → IsRun start steps bytes told status text →
      (status ≡ 0) ⊎ (status ≡ 7)
  run_done start steps status text (unread s t is) = absurd (both_read status text is)
  run_done start steps status text (read s t image points offsets code are short is) =
      checked_have_verdicts image points offsets old start steps status text
      (known_are_checked image points offsets old told start steps status text of.words of.text_is (known image points code) is)

  no_cause : (image : Image) (points : FlowPoints) → IsOld bytes old → IsCode bytes image points → (refusal : UpgradeRefusal) →
      refusal ≢ Memory → IsUpgradeRefusal points old refusal → ⊥
  no_cause image points new code AlreadyNew other why = let one = new.version_is in omega arith
  no_cause image points new code (NotAPoint a) other why = known image points code a why.1
  no_cause image points new code (Heads limit) other (one, there, is, (program, lifted, many)) =
      new.few_heads image points program code lifted many
  no_cause image points new code Memory other why = other refl

  pub upgrade_done : (status : ℕ) (text : List ℕ) → IsOld bytes old → IsUpgrade bytes told status text → status ≡ 0
  upgrade_done status text new (unread s t is) = absurd (both_read status text is)
  upgrade_done status text new (read s t image points code short (no_report s' t' refusal is other is_6 line)) =
      absurd (not_refused old refusal other (text_read old told (Err refusal) of.words of.text_is is))
  upgrade_done status text new (read s t image points code short (not_upgraded s' t' report refusal is why other status_is line)) =
      absurd (no_cause image points new code refusal other
      (subst (λ (r : Report). IsUpgradeRefusal points r refusal) (text_read old told (Ok report) of.words of.text_is is.told) why))
  upgrade_done status text new (read s t image points code short (upgraded s' t' report made is of' is_0 line)) = is_0

pub both_done : (file report : Option (List ℕ)) (Free : List ℕ → List ℕ → Type 0) (answer too : List ℕ → List ℕ → ℕ → List ℕ → Type 0) →
    ((bytes told : List ℕ) (status : ℕ) (text : List ℕ) → IsUnrefused (IsListRefusal bytes) bytes → Free bytes told → answer bytes told status text →
    too bytes told status text) →
    complete.HasContents file (λ bytes. IsUnrefused (IsListRefusal bytes) bytes × complete.HasContents report (Free bytes)) →
    (status : ℕ) (text : List ℕ) → IsOverBoth file report answer status text → IsOverBoth file report too status text
both_done (Some bytes) (Some told) Free answer too gives (free, is_free) status text is = gives bytes told status text free is_free is
both_done (Some bytes) None Free answer too gives (free, none) status text is = absurd none
both_done None report Free answer too gives none status text is = absurd none

-- Statuses of answers: none of them is that of a fault.
use Rattle.std.proofs.Common.{◌≡◌, ◌≢◌, ℕ, ◌<◌, inl, inr, List, arith}
use Rattle.report_text.specs.declared.reports.Report.{Report}
use Rattle.run_answers.specs.Answers as runs
use Rattle.run_answers.specs.Laws.{IsVerdictStatus}
use Rattle.run_answers.proofs.OwnReports.{checked_have_verdicts}
use Rattle.analyser_core.specs.declared.cert_line.CertLine.{CertLine}
use Rattle.analyser_core.specs.declared.upgrades.UpgradeRefusal.{UpgradeRefusal}
use Rattle.analyser_core.specs.declared.upgrades.UpgradeRefusal.TheVariants.{AlreadyNew, NotAPoint, Heads, Memory}
use Rattle.call_ends.proofs.Laws.{IsLow, IsPlain}
use Rattle.order_answers.specs.UpgradeRefusals.{upgrade_status}
use Rattle.order_answers.specs.Answers.{IsAnswer, refused, no_list, crowded, analysed, IsListing, listed, IsGenAnswer, out_of_range, generated}
use Rattle.order_answers.specs.FileRefusals.{IsRefused, too_long, no_image, bad_flow}
use Rattle.order_answers.specs.NarrowAnswers as narrow
use Rattle.order_answers.specs.NarrowAnswers.{AnswersNarrow}
use Rattle.order_answers.specs.RefuteAnswers as refute
use Rattle.order_answers.specs.RefuteAnswers.{AnswersRefute}
use Rattle.flow_points.specs.declared.code_points.Point.{Point}
use Rattle.order_answers.specs.ReportAnswers.{IsUnread, refused_file, too_long_report, IsRun, unread, read, no_report, not_upgraded, upgraded, IsUpgrade}
use Rattle.order_answers.specs.GenText.{gen_text}
use Rattle.top_call.specs.Answers.{IsUsage}

pub refused_status : (bytes : List ℕ) (status : ℕ) (text : List ℕ) → IsRefused bytes status text → status < 2
refused_status bytes status text (too_long status' text' longer is line) = omega arith
refused_status bytes status text (no_image status' text' refusal short why is line) = omega arith
refused_status bytes status text (bad_flow status' text' image refusal short of why is line) = omega arith

pub answer_low : (told : Report → List CertLine → List ℕ) (list bytes : List ℕ) → IsLow (IsAnswer told list bytes)
answer_low told list bytes status text (refused status' text' is) = let low = refused_status bytes status text is in omega arith
answer_low told list bytes status text (no_list status' text' image points refusal short of has why other is line) = omega arith
answer_low told list bytes status text (crowded status' text' short many is line) = omega arith
answer_low told list bytes status text (analysed status' text' report certs short what is line) = omega arith

pub narrow_low : (list bytes : List ℕ) → IsLow (AnswersNarrow list bytes)
narrow_low list bytes status text (narrow.refused status' text' is) = let low = refused_status bytes status text is in omega arith
narrow_low list bytes status text (narrow.no_list status' text' image points refusal short of has why other is line) = omega arith
narrow_low list bytes status text (narrow.crowded status' text' short many is line) = omega arith
narrow_low list bytes status text (narrow.analysed status' text' report short what is line) = omega arith

pub refute_low : (list : List ℕ) (at : Point) (row bytes : List ℕ) → IsLow (AnswersRefute list at row bytes)
refute_low list at row bytes status text (refute.refused status' text' is) = let low = refused_status bytes status text is in omega arith
refute_low list at row bytes status text (refute.no_list status' text' image points refusal short of has why other is line) = omega arith
refute_low list at row bytes status text (refute.crowded status' text' short many is line) = omega arith
refute_low list at row bytes status text (refute.no_point status' text' short over is line) = omega arith
refute_low list at row bytes status text (refute.bad_row status' text' refusal short over is line) = omega arith
refute_low list at row bytes status text (refute.told status' text' short what is) = omega arith

pub gen_low : (n : ℕ) (list : List ℕ) → IsLow (IsGenAnswer n list)
gen_low n list status text (out_of_range status' text' out is line) = omega arith
gen_low n list status text (generated status' text' bytes is answer) = answer_low (gen_text n bytes) list bytes status text answer

pub listing_low : (bytes : List ℕ) → IsLow (IsListing bytes)
listing_low bytes status text (refused status' text' is) = let low = refused_status bytes status text is in omega arith
listing_low bytes status text (listed status' text' short what is) = omega arith

pub usage_low : IsLow IsUsage
usage_low status text is = let two = is.status_is in omega arith

unread_plain : (bytes told : List ℕ) → IsPlain (IsUnread bytes told)
unread_plain bytes told status text (refused_file status' text' is) = let low = refused_status bytes status text is in (λ e. omega arith, λ e. omega arith)
unread_plain bytes told status text (too_long_report status' text' image points code longer is line) = (λ e. omega arith, λ e. omega arith)

verdict_plain : (status : ℕ) → IsVerdictStatus status → (status ≢ 3) × (status ≢ 4)
verdict_plain status (inl is) = (λ e. omega arith, λ e. omega arith)
verdict_plain status (inr is) = (λ e. omega arith, λ e. omega arith)

pub run_plain : (start : List ℕ) (steps : ℕ) (bytes told : List ℕ) → IsPlain (IsRun start steps bytes told)
run_plain start steps bytes told status text (unread status' text' is) = unread_plain bytes told status text is
run_plain start steps bytes told status text (read status' text' image points offsets code are short (runs.refused refusal is other is_6 line)) =
    (λ e. omega arith, λ e. omega arith)
run_plain start steps bytes told status text (read status' text' image points offsets code are short (runs.strange report address is stranger is_6 line)) =
    (λ e. omega arith, λ e. omega arith)
run_plain start steps bytes told status text (read status' text' image points offsets code are short (runs.checked report is known checked)) =
    verdict_plain status (checked_have_verdicts image points offsets report start steps status text checked)

refusal_status : (refusal : UpgradeRefusal) (status : ℕ) → status ≡ upgrade_status refusal → (status ≢ 3) × (status ≢ 4)
refusal_status AlreadyNew status is = (λ e. omega arith, λ e. omega arith)
refusal_status (NotAPoint a) status is = (λ e. omega arith, λ e. omega arith)
refusal_status (Heads limit) status is = (λ e. omega arith, λ e. omega arith)
refusal_status Memory status is = (λ e. omega arith, λ e. omega arith)

pub upgrade_plain : (bytes told : List ℕ) → IsPlain (IsUpgrade bytes told)
upgrade_plain bytes told status text (unread status' text' is) = unread_plain bytes told status text is
upgrade_plain bytes told status text (read status' text' image points code short (no_report s t refusal is other is_6 line)) =
    (λ e. omega arith, λ e. omega arith)
upgrade_plain bytes told status text (read status' text' image points code short (not_upgraded s t old refusal is why other status_is line)) =
    refusal_status refusal status status_is
upgrade_plain bytes told status text (read status' text' image points code short (upgraded s t old new is of is_0 line)) =
    (λ e. omega arith, λ e. omega arith)

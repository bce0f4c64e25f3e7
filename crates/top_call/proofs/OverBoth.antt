-- Answers over what was read of a file and a report.
use Rattle.std.proofs.Common.{◌≡◌, ℕ, List, Option, Result, Ok, Err, Vec, subst}
use Rattle.std.specs.declared.alloc.Global.{Global}
use Rattle.std.specs.declared.alloc.AllocError.{AllocError}
use Rattle.std.specs.Result.{IfOk}
use Rattle.elf_image.specs.declared.image.Image.{Image}
use Rattle.flow_points.specs.PointLists.{FlowPoints}
use Rattle.frame_offsets.specs.Frames.{AreOffsetsOf}
use Rattle.run_answers.specs.Answers.{IsRunAnswer}
use Rattle.call_ends.specs.Calls.{IsOverBoth}
use Rattle.call_ends.proofs.Laws.{over_both}
use Rattle.order_answers.specs.ReportAnswers as reports
use Rattle.order_answers.specs.ReportAnswers.{IsRun, IsUpgrade, IsUpgradeAnswer}
use Rattle.top_call.specs.Inputs.{AreInputs}

abbrev Given : Type 0
Given = Result (ℕ × Vec ℕ Global) AllocError

abbrev pub HasRunAnswer : Image → FlowPoints → List ℕ → List ℕ → ℕ → ℕ → List ℕ → Type 0
HasRunAnswer image points told start steps status text =
    (offsets : List (Option ℕ)) × AreOffsetsOf points offsets × IsRunAnswer image points offsets told start steps status text

pub run_over : (file report : Option (List ℕ)) (image : Image) (points : FlowPoints) (slice told start : List ℕ) (steps : ℕ) (given : Given) →
    slice ≡ told → AreInputs file report image points told → IfOk given (λ a. HasRunAnswer image points slice start steps a.0 a.1.items) →
    IfOk given (λ a. IsOverBoth file report (IsRun start steps) a.0 a.1.items)
run_over file report image points slice told start steps (Ok a) same inputs is =
    let (offsets, are, answer) = subst (λ t. HasRunAnswer image points t start steps a.0 a.1.items) same is in
    over_both file report (IsRun start steps) inputs.code.bytes told a.0 a.1.items inputs.code.whole inputs.whole
    (reports.IsRun.read a.0 a.1.items image points offsets inputs.code.code are inputs.short answer)
run_over file report image points slice told start steps (Err e) same inputs is = tt

pub upgrade_over : (file report : Option (List ℕ)) (image : Image) (points : FlowPoints) (slice told : List ℕ) (given : Given) →
    slice ≡ told → AreInputs file report image points told → IfOk given (λ a. IsUpgradeAnswer points slice a.0 a.1.items) →
    IfOk given (λ a. IsOverBoth file report IsUpgrade a.0 a.1.items)
upgrade_over file report image points slice told (Ok a) same inputs is =
    over_both file report IsUpgrade inputs.code.bytes told a.0 a.1.items inputs.code.whole inputs.whole
    (reports.IsUpgrade.read a.0 a.1.items image points inputs.code.code inputs.short
    (subst (λ t. IsUpgradeAnswer points t a.0 a.1.items) same is))
upgrade_over file report image points slice told (Err e) same inputs is = tt

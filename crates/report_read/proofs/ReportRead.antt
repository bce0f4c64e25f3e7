-- A report's text is read as the report.
use Rattle.std.proofs.Common.{◌≡◌, ℕ, List, Ok, Err, sym, subst}
use Rattle.std.proofs.Props.{props}
use Rattle.std.proofs.Math.Logic.{∥∥₁_elim}
use Rattle.report_text.specs.declared.reports.Report.{Report}
use Rattle.report_text.specs.Text.{text_of}
use Rattle.refusals.specs.declared.report.ReportRefusal.{ReportRefusal}
use Rattle.refusals.specs.declared.report.ReportRefusal.TheVariants as refusals
use Rattle.report_read.specs.Telling.{IsTextJudged, IsTextTold, Outcome}
use Rattle.report_read.specs.Written.{IsOfWords, IsReadAs}
use Rattle.report_read.proofs.OneTelling.{all_apart}
use Rattle.report_read.proofs.Sets.{report_set}
use Rattle.report_read.proofs.TextsAgain.{text_judged}
use Rattle.report_read.proofs.OneText.{one_telling}

pub IsReadAs-prop : (report : Report) (r : Outcome) → IsProp (IsReadAs report r)
IsReadAs-prop report (Ok read) = report_set read report
IsReadAs-prop report (Err refusals.Memory) = hlevel props
IsReadAs-prop report (Err (refusals.Syntax n)) = hlevel props
IsReadAs-prop report (Err (refusals.UnknownName n)) = hlevel props
IsReadAs-prop report (Err (refusals.Order n)) = hlevel props
IsReadAs-prop report (Err (refusals.NotReduced n)) = hlevel props

abbrev pub okay : Report → Outcome
okay report = Ok report

abbrev pub wrong : ReportRefusal → Outcome
wrong refusal = Err refusal

pub read_as : (report : Report) (bytes : List ℕ) (r : Outcome) → IsTextJudged bytes (Ok report) → IsTextTold bytes r
    → IsReadAs report r
read_as report bytes (Ok read) judged told = let e : okay read ≡ okay report = one_telling bytes (Ok read) (Ok report) told judged in cc
read_as report bytes (Err refusals.Memory) judged told = tt
read_as report bytes (Err (refusals.Syntax n)) judged told = let e : wrong (refusals.Syntax n) ≡ okay report = one_telling bytes (Err (refusals.Syntax n)) (Ok report) told judged in absurd cc
read_as report bytes (Err (refusals.UnknownName n)) judged told =
    let e : wrong (refusals.UnknownName n) ≡ okay report = one_telling bytes (Err (refusals.UnknownName n)) (Ok report) told judged in absurd cc
read_as report bytes (Err (refusals.Order n)) judged told = let e : wrong (refusals.Order n) ≡ okay report = one_telling bytes (Err (refusals.Order n)) (Ok report) told judged in absurd cc
read_as report bytes (Err (refusals.NotReduced n)) judged told =
    let e : wrong (refusals.NotReduced n) ≡ okay report = one_telling bytes (Err (refusals.NotReduced n)) (Ok report) told judged in absurd cc

-- a report's text is read as the report
pub text_read : (report : Report) (bytes : List ℕ) (r : Outcome) → IsOfWords report → bytes ≡ text_of report → IsTextTold bytes r
    → IsReadAs report r
text_read report bytes r words is told =
    ∥∥₁_elim report.without goal_prop (λ without. ∥∥₁_elim report.certified goal_prop (λ certified. ∥∥₁_elim report.ascending goal_prop (λ ascending. ∥∥₁_elim report.reduced goal_prop (λ reduced.
    read_as report bytes r
    (subst (λ (b : List ℕ). IsTextJudged b (Ok report)) (sym is)
    (text_judged report words (all_apart report.tracked words.names).distinct without certified ascending reduced)) told))))
  where
    goal_prop : IsProp (IsReadAs report r)
    goal_prop = IsReadAs-prop report r

-- The judgement of lines, one line more.
use Rattle.std.proofs.Common.{◌≡◌, ℕ, ◌+◌, ◌<◌, ◌≤◌, List, [], ◌∷◌, length, Ok, Err, refl, sym, subst, ap, arith}
use Rattle.report_text.specs.declared.names.Tracked.{Tracked}
use Rattle.report_text.specs.declared.reports.Report.{Report}
use Rattle.report_lines.specs.Lines.{header_text}
use Rattle.report_lines.specs.Parts.{parts_of}
use Rattle.report_read.specs.declared.draft.Draft.{Draft}
use Rattle.refusals.specs.declared.report.ReportRefusal.{ReportRefusal}
use Rattle.refusals.specs.declared.report.ReportRefusal.TheVariants as refusals
use Rattle.report_read.specs.Judging.{IsEndJudged, IsJudged, IsLineJudged, IsReportOf, goes_on, refused, rows, unfinished, whole}
use Rattle.report_read.specs.Steps.{IsStep}
use Rattle.report_read.specs.Telling.{begun, IsEndTold, IsFirstLine, IsJudgedOr, IsTextTold, IsTrackJudged, IsTrackTold, header, Outcome, UnlessMemory}

-- a line and what follows it
pub judged_on : (piece : List ℕ) (parts : List (List ℕ)) (k : ℕ) (d : Draft) (r : Outcome) → 0 < length parts
    → IsLineJudged k d piece (λ e. IsJudged parts (k + 1) e r) r → IsJudged (piece ∷ parts) k d r
judged_on piece [] k d r some j = absurd (omega arith)
judged_on piece (next ∷ parts) k d r some j = j

pub judged_next : (piece : List ℕ) (parts : List (List ℕ)) (k : ℕ) (d next : Draft) (r : Outcome) → 0 < length parts
    → IsStep k d piece (Ok next)
    → IsJudged parts (k + 1) next r → IsJudged (piece ∷ parts) k d r
judged_next piece parts k d next r some step j = judged_on piece parts k d r some (goes_on step.0 next step.1 step.2 step.3 j)

-- what is refused, unless memory is wanting
pub refused_so : (piece : List ℕ) (parts : List (List ℕ)) (k : ℕ) (d : Draft) (refusal : ReportRefusal) (Judged : Outcome → Type 0)
    → 0 < length parts
    → ((r : Outcome) → IsJudged (piece ∷ parts) k d r → Judged r) → IsStep k d piece (Err refusal)
    → UnlessMemory Judged (Err refusal)
refused_so piece parts k d refusals.Memory Judged some so step = tt
refused_so piece parts k d (refusals.Syntax n) Judged some so step =
    so (Err (refusals.Syntax n)) (judged_on piece parts k d (Err (refusals.Syntax n)) some (refused (refusals.Syntax n) step refl))
refused_so piece parts k d (refusals.UnknownName n) Judged some so step =
    so (Err (refusals.UnknownName n)) (judged_on piece parts k d (Err (refusals.UnknownName n)) some (refused (refusals.UnknownName n) step refl))
refused_so piece parts k d (refusals.Order n) Judged some so step =
    so (Err (refusals.Order n)) (judged_on piece parts k d (Err (refusals.Order n)) some (refused (refusals.Order n) step refl))
refused_so piece parts k d (refusals.NotReduced n) Judged some so step =
    so (Err (refusals.NotReduced n)) (judged_on piece parts k d (Err (refusals.NotReduced n)) some (refused (refusals.NotReduced n) step refl))

pub end_refused_so : (rest : List ℕ) (k : ℕ) (d : Draft) (refusal : ReportRefusal) (Judged : Outcome → Type 0)
    → ((r : Outcome) → IsEndJudged k d rest r → Judged r) → IsEndTold k d rest (Err refusal) → UnlessMemory Judged (Err refusal)
end_refused_so rest k d refusals.Memory Judged so told = tt
end_refused_so rest k d (refusals.Syntax n) Judged so told =
    so (Err (refusals.Syntax n)) (unfinished told.1 told.2 (ap (λ (m : ℕ). wrong (refusals.Syntax m)) told.0))
  where
    wrong : ReportRefusal → Outcome
    wrong refusal = Err refusal
end_refused_so rest k d (refusals.UnknownName n) Judged so told = absurd told
end_refused_so rest k d (refusals.Order n) Judged so told = absurd told
end_refused_so rest k d (refusals.NotReduced n) Judged so told = so (Err (refusals.NotReduced n)) (rows n told refl)

pub end_whole : (rest : List ℕ) (k : ℕ) (d draft : Draft) (report : Report) → IsEndTold k d rest (Ok draft)
    → IsReportOf draft report → IsEndJudged k d rest (Ok report)
end_whole rest k d draft report told is = whole report told.0 told.1 (subst (λ (x : Draft). IsReportOf x report) told.2 is) refl

pub whole_so : (all parts : List (List ℕ)) (rest : List ℕ) (k : ℕ) (start d draft : Draft) (report : Report) → parts ≡ rest ∷ []
    → ((r : Outcome) → IsJudged parts k d r → IsJudged all 3 start r) → IsEndTold k d rest (Ok draft) → IsReportOf draft report
    → IsJudged all 3 start (Ok report)
whole_so all parts rest k start d draft report part so told is =
    so (Ok report) (subst (λ (ps : List (List ℕ)). IsJudged ps k d (Ok report)) (sym part) (end_whole rest k d draft report told is))

-- what is told of the lines is told of all
pub lines_told : (version : ℕ) (text piece behind : List ℕ) (texts : List (List ℕ)) (tracked : Tracked) (r : Outcome)
    → ((q : Outcome) → IsJudged (parts_of 10 behind) 3 (begun version tracked) q → IsTrackJudged version text q)
    → IsJudgedOr (parts_of 10 behind) 3 (begun version tracked) r → IsTrackTold version text r
lines_told version text piece behind texts tracked (Ok report) so j = so (Ok report) j
lines_told version text piece behind texts tracked (Err refusals.Memory) so j = tt
lines_told version text piece behind texts tracked (Err (refusals.Syntax n)) so j = so (Err (refusals.Syntax n)) j
lines_told version text piece behind texts tracked (Err (refusals.UnknownName n)) so j = so (Err (refusals.UnknownName n)) j
lines_told version text piece behind texts tracked (Err (refusals.Order n)) so j = so (Err (refusals.Order n)) j
lines_told version text piece behind texts tracked (Err (refusals.NotReduced n)) so j = so (Err (refusals.NotReduced n)) j

pub text_told : (version : ℕ) (bytes piece behind : List ℕ) (r : Outcome) → IsFirstLine bytes piece behind → 1 ≤ version
    → version ≤ 2 → piece ≡ header_text version
    → IsTrackTold version behind r → IsTextTold bytes r
text_told version bytes piece behind (Ok report) line low high is j = header piece behind version line low high is j
text_told version bytes piece behind (Err refusals.Memory) line low high is j = tt
text_told version bytes piece behind (Err (refusals.Syntax n)) line low high is j = header piece behind version line low high is j
text_told version bytes piece behind (Err (refusals.UnknownName n)) line low high is j = header piece behind version line low high is j
text_told version bytes piece behind (Err (refusals.Order n)) line low high is j = header piece behind version line low high is j
text_told version bytes piece behind (Err (refusals.NotReduced n)) line low high is j = header piece behind version line low high is j

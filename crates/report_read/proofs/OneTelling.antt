-- One thing is told of lines.
use Rattle.std.proofs.Common.{◌≡◌, ℕ, ◌+◌, Bool, true, false, cond, List, [], ◌∷◌, All, Err, refl, sym, subst, ap, ◌∙◌}
use Rattle.std.proofs.Props.{props}
use Rattle.std.proofs.Math.Logic.{∥∥₁_elim}
use Rattle.report_text.specs.declared.names.Tracked.{Tracked}
use Rattle.report_lines.specs.NameTexts.{IsAddressed}
use Rattle.report_lines.proofs.OneLine.{one_line}
use Rattle.report_read.specs.declared.draft.Draft.{Draft}
use Rattle.refusals.specs.declared.report.ReportRefusal.{ReportRefusal}
use Rattle.report_read.specs.Drafts.{BecomesAt, closed}
use Rattle.report_read.specs.Judging.{IsJudged, IsLineJudged, IsNext, before, goes_on, refused}
use Rattle.report_read.specs.Telling.{Outcome}
use Rattle.report_lines.specs.Lines.{Line, is_relation}
use Rattle.report_read.proofs.Headers.{closed_header, next_header}
use Rattle.report_read.proofs.OneRow.{AreApart}
use Rattle.report_read.proofs.OneStep.{not_refused, one_end, one_refusal}
use Rattle.report_read.proofs.OneNext.{one_next}

pub all_apart : (tracked : Tracked) → All IsAddressed tracked.names → AreApart tracked.names
all_apart tracked addressed = record {
  allowed = tracked.allowed;
  addressed = addressed;
  distinct = ∥∥₁_elim tracked.distinct (hlevel props) (λ h. h);
}

abbrev pub wrong : ReportRefusal → Outcome
wrong refusal = Err refusal

pub before_tracked : (d : Draft) (line : Line) (next : Draft) (k : ℕ) → IsNext k d line next → All IsAddressed d.tracked.names
    → All IsAddressed next.tracked.names
before_tracked d line next k is addressed = subst (λ (t : Tracked). All IsAddressed t.names) (sym (next_header k d line next is).1) addressed

pub closed_tracked : (d : Draft) (line : Line) → All IsAddressed d.tracked.names → All IsAddressed (before d line).tracked.names
closed_tracked d line addressed = subst (λ (t : Tracked). All IsAddressed t.names) (sym (by (is_relation line))) addressed
  where
    by : (b : Bool) → (cond b d (closed d)).tracked ≡ d.tracked
    by true = refl
    by false = (closed_header d d.place).1

pub one_step : (k : ℕ) (d : Draft) (piece : List ℕ) (follows : Outcome → Draft → Type 0) (r q : Outcome)
    → All IsAddressed d.tracked.names
    → ((next : Draft) → All IsAddressed next.tracked.names → follows r next → follows q next → r ≡ q)
    → IsLineJudged k d piece (follows r) r → IsLineJudged k d piece (follows q) q → r ≡ q
one_step k d piece follows r q addressed later (goes_on line m fits is n f) (goes_on line' m' fits' is' n' f') =
    let same : line' ≡ line = one_line line' line fits' fits (sym is' ∙ is) in
    let becomes' = subst (λ (l : Line). BecomesAt k (before d l) (before d l).place l m') same n'.becomes in
    let next : m' ≡ m = one_next k (before d line) (before d line).place line m' m (all_apart (before d line).tracked (closed_tracked d line addressed)) becomes' n.becomes in
    later m (before_tracked d line m k n addressed) f (subst (follows q) next f')
one_step k d piece follows r q addressed later (goes_on line m fits is n f) (refused refusal w e) = absurd (not_refused k d piece line m refusal fits is n w)
one_step k d piece follows r q addressed later (refused refusal w e) (goes_on line m fits is n f) = absurd (not_refused k d piece line m refusal fits is n w)
one_step k d piece follows r q addressed later (refused refusal w e) (refused refusal' w' e') = e ∙ ap wrong (one_refusal k d piece refusal refusal' w w') ∙ sym e'

pub one_judged : (parts : List (List ℕ)) (k : ℕ) (d : Draft) (r q : Outcome) → All IsAddressed d.tracked.names
    → IsJudged parts k d r → IsJudged parts k d q → r ≡ q
one_judged [] k d r q addressed a b = absurd a
one_judged (rest ∷ []) k d r q addressed a b = one_end k d rest r q a b
one_judged (piece ∷ next ∷ parts) k d r q addressed a b =
    one_step k d piece (λ o e. IsJudged (next ∷ parts) (k + 1) e o) r q addressed (λ e addr f g. one_judged (next ∷ parts) (k + 1) e r q addr f g) a b

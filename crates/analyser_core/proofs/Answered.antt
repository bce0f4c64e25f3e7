-- What is made of accepted points and names answers for the file and the list.
use Rattle.std.proofs.Common.{ℕ, List}
use Rattle.std.specs.Prelude.{Result, Ok, Err, IfOk, IfErr, MatchResult}
use Rattle.flow_points.specs.PointLists.{FlowPoints}
use Rattle.report_text.specs.declared.names.Name.{Name}
use Rattle.analyser_core.specs.declared.analysis.Analysis.{Analysis}
use Rattle.analyser_core.specs.declared.refusal.Refusal.{Refusal}
use Rattle.analyser_core.specs.declared.refusal.Refusal.TheVariants.{Elf, Flow, Track, Heads, Memory}
use Rattle.analyser_core.specs.Accepted.{IsAcceptedAs, IsRefusal}
use Rattle.analyser_core.specs.Made.{IsMade, IsMadeRefusal}
use Rattle.analyser_core.specs.Reports.{IsReportOver}

module _ (bytes list : List ℕ) (points : FlowPoints) (names : List Name) (accepted : IsAcceptedAs bytes list points names) where
  late_refusal : (refusal : Refusal) → IsMadeRefusal points names refusal → IsRefusal bytes list refusal
  late_refusal (Elf refusal) is = absurd is
  late_refusal (Flow refusal) is = absurd is
  late_refusal (Track refusal) is = absurd is
  late_refusal (Heads limit) is = (is.1, record { points = points; names = names; program = is.0; accepted = accepted; lifted = is.2; many_heads = is.3 })
  late_refusal Memory is = tt

  pub report_over : (before after : ℕ) (a : Analysis) → IsMade points names before after a.report a.certs → IsReportOver bytes list a.report a.certs
  report_over before after a m = record {
    points = points;
    names = names;
    program = m.program;
    lifted = record { accepted = accepted; lifted = m.lifted };
    few_heads = m.few_heads;
    is_report = m.is_report;
  }

  pub answered : (before after : ℕ) (result : Result Analysis Refusal) → IfOk result (λ a. IsMade points names before after a.report a.certs) →
      IfErr result (IsMadeRefusal points names) → MatchResult result (λ a. IsReportOver bytes list a.report a.certs) (IsRefusal bytes list)
  answered before after (Ok a) made refusal = report_over before after a made
  answered before after (Err e) made refusal = late_refusal e refusal

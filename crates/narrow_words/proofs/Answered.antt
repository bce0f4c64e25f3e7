-- What is made of accepted points and names answers for the file and the list.
use Rattle.std.proofs.Common.{ℕ, List}
use Rattle.std.specs.Prelude.{Result, Ok, Err, IfOk, IfErr, MatchResult}
use Rattle.elf_image.specs.declared.image.Image.{Image}
use Rattle.flow_points.specs.PointLists.{FlowPoints}
use Rattle.report_text.specs.declared.names.Name.{Name}
use Rattle.analyser_core.specs.Accepted.{IsImageOf, IsFileRefusal, IsCodeRefusal}
use Rattle.analyser_core.specs.declared.refusal.Refusal.{Refusal}
use Rattle.analyser_core.specs.declared.refusal.Refusal.TheVariants.{Elf, Flow, Track, Heads, Memory}
use Rattle.narrow_words.specs.Accepted.{IsNarrowAccepted, IsNarrowRefusal}
use Rattle.narrow_words.specs.Made.{IsNarrowMade, IsNarrowMadeRefusal}
use Rattle.narrow_words.specs.Reports.{IsNarrowReportOver}
use Rattle.narrow_words.specs.declared.reports.NarrowReport.{NarrowReport}

pub refused_file : (bytes list : List ℕ) (refusal : Refusal) → IsFileRefusal bytes refusal → IsNarrowRefusal bytes list refusal
refused_file bytes list (Elf refusal) is = is
refused_file bytes list (Flow refusal) is = absurd is
refused_file bytes list (Track refusal) is = absurd is
refused_file bytes list (Heads limit) is = absurd is
refused_file bytes list Memory is = tt

pub refused_code : (bytes list : List ℕ) (image : Image) (refusal : Refusal) → IsImageOf bytes image → IsCodeRefusal image refusal → IsNarrowRefusal bytes list refusal
refused_code bytes list image (Elf refusal) of is = absurd is
refused_code bytes list image (Flow refusal) of is = (image, of, is)
refused_code bytes list image (Track refusal) of is = absurd is
refused_code bytes list image (Heads limit) of is = absurd is
refused_code bytes list image Memory of is = tt

module _ (bytes list : List ℕ) (points : FlowPoints) (names : List Name) (accepted : IsNarrowAccepted bytes list points names) where
  late_refusal : (refusal : Refusal) → IsNarrowMadeRefusal points names refusal → IsNarrowRefusal bytes list refusal
  late_refusal (Elf refusal) is = absurd is
  late_refusal (Flow refusal) is = absurd is
  late_refusal (Track refusal) is = absurd is
  late_refusal (Heads limit) is = (is.1, record { points = points; names = names; program = is.0; accepted = accepted; lifted = is.2; many_heads = is.3 })
  late_refusal Memory is = tt

  pub answered : (result : Result NarrowReport Refusal) → IfOk result (IsNarrowMade points names) → IfErr result (IsNarrowMadeRefusal points names)
      → MatchResult result (IsNarrowReportOver bytes list) (IsNarrowRefusal bytes list)
  answered (Ok report) made refusal = record {
    points = points;
    names = names;
    program = made.program;
    accepted = accepted;
    lifted = made.lifted;
    few_heads = made.few_heads;
    is_report = made.is_report;
  }
  answered (Err e) made refusal = late_refusal e refusal

-- A report as it is made, for points and names that are accepted. No public contract cites these words.
--
--   IsNarrowTold program points names u point
--                             the point is point u, tells what holds there, and its rows are those of a report
--   AreNarrowTold program points names told
--                             so are the first points, as many as there are
--   IsNarrowMade points names report
--                             the report is that of the program that is lifted from them, which has few heads
--   IsNarrowMadeRefusal points names refusal
--                             memory was wanting, or such a program has too many heads
use Rattle.std.specs.Prelude.{◌≡◌, ℕ, List, Some, slice_get}
use Rattle.flow_points.specs.PointLists.{FlowPoints}
use Rattle.flow_points.specs.declared.code_points.CodePoint.{CodePoint}
use Rattle.affine_prog.specs.declared.Program.{Program}
use Rattle.affine_lift.specs.declared.width.Width.TheVariants.{Narrow}
use Rattle.affine_lift.specs.Lifting.{IsLiftedBy}
use Rattle.report_text.specs.declared.names.Name.{Name}
use Rattle.report_text.specs.declared.points.PointRows.{PointRows}
use Rattle.analyser_core.specs.Heads.{most_heads, HasFewHeads, HasManyHeads}
use Rattle.analyser_core.specs.declared.refusal.Refusal.{Refusal}
use Rattle.analyser_core.specs.declared.refusal.Refusal.TheVariants.{Heads, Memory}
use Rattle.narrow_words.specs.Rows.{AreNarrowRowsAt}
use Rattle.narrow_words.specs.Reports.{IsNarrowReportOf, TellsNarrow}
use Rattle.narrow_words.specs.declared.reports.NarrowReport.{NarrowReport}

pub record IsNarrowTold (program : Program) (points : FlowPoints) (names : List Name) (u : ℕ) (point : PointRows) : Type 0 where
  pub code : CodePoint
  pub at : slice_get points.points u ≡ Some code
  pub tells : TellsNarrow program code u point
  pub rows : AreNarrowRowsAt names point

abbrev pub AreNarrowTold : Program → FlowPoints → List Name → List PointRows → Type 0
AreNarrowTold program points names told = (u : ℕ) (point : PointRows) → slice_get told u ≡ Some point → IsNarrowTold program points names u point

pub record IsNarrowMade (points : FlowPoints) (names : List Name) (report : NarrowReport) : Type 0 where
  pub program : Program
  pub lifted : IsLiftedBy Narrow points names program
  pub few_heads : HasFewHeads program
  pub is_report : IsNarrowReportOf program points names report

abbrev pub IsNarrowMadeRefusal : FlowPoints → List Name → Refusal → Type 0
IsNarrowMadeRefusal points names (Heads limit) =
    (program : Program) × (limit ≡ most_heads) × IsLiftedBy Narrow points names program × HasManyHeads program
IsNarrowMadeRefusal points names Memory = Unit {0}
IsNarrowMadeRefusal points names refusal = ⊥

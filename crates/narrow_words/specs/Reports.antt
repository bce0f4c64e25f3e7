-- What a report of narrow relations says of a program whose assignments are to the low 32 bits of the tracked names.
--
--   NarrowHoldsAt program u a           the narrow row a holds at node u: it is 0 at each position that isn't visible there, and
--                                       a . v is a multiple of 2^32 for the state v of every open path to u from every start
--   TellsNarrowRows program u rows      some open path comes to node u, and the rows are the reduced narrow basis that generates the
--                                       narrow rows which hold there
--   TellsNarrowState program u state    the state says that no open path comes to node u, or has the reduced narrow basis that
--                                       generates what holds there
--   TellsNarrow program code u point    the point is that of the code, and tells what holds at node u
--   IsNarrowReportOf program points names report
--                                       the report has these names, and tells of each of the points in turn what holds at its node
--   IsNarrowReportOver bytes list report
--                                       the bytes and the list are accepted, their program has no more heads than it may, and the
--                                       report is that of the program
-- A set of rows has one reduced narrow basis (`narrow_solver`), so that there is one such report.
use Rattle.std.specs.Prelude.{◌≡◌, ℕ, List, Some, length, slice_get}
use Rattle.row_modules.specs.Positions.{with_constant}
use Rattle.flow_points.specs.PointLists.{FlowPoints}
use Rattle.flow_points.specs.declared.code_points.CodePoint.{CodePoint}
use Rattle.affine_prog.specs.declared.Program.{Program}
use Rattle.affine_prog.specs.Programs.{owner_of, visible_in}
use Rattle.affine_prog.specs.Relations.{IsReached}
use Rattle.affine_prog.specs.Spans.{IsStateAt}
use Rattle.affine_lift.specs.declared.width.Width.TheVariants.{Narrow}
use Rattle.affine_lift.specs.Lifting.{IsLiftedBy}
use Rattle.report_text.specs.declared.names.Name.{Name}
use Rattle.report_text.specs.declared.points.PointRows.{PointRows}
use Rattle.report_text.specs.declared.points.PointState.{PointState}
use Rattle.report_text.specs.declared.points.PointState.TheVariants.{Unreached, Rows}
use Rattle.row_modules.specs.Bases.{IsReduced}
use Rattle.narrow_solver.specs.Narrow.{IsNarrowBasis, NarrowGenerates, NarrowHolds}
use Rattle.analyser_core.specs.Heads.{HasFewHeads}
use Rattle.narrow_words.specs.Accepted.{IsNarrowAccepted}
use Rattle.narrow_words.specs.declared.reports.NarrowReport.{NarrowReport}

abbrev pub NarrowHoldsAt : Program → ℕ → List ℕ → Type 0
NarrowHoldsAt program u a = NarrowHolds (with_constant (visible_in program (owner_of program u))) (IsStateAt program u) a

pub record TellsNarrowRows (program : Program) (u : ℕ) (rows : List (List ℕ)) : Type 0 where
  pub reached : IsReached program u
  pub basis : IsNarrowBasis 17 rows
  pub reduced : IsReduced rows
  pub generates : NarrowGenerates 17 rows (NarrowHoldsAt program u)

abbrev pub TellsNarrowState : Program → ℕ → PointState → Type 0
TellsNarrowState program u Unreached = IsReached program u → ⊥
TellsNarrowState program u (Rows rows) = TellsNarrowRows program u rows

pub record TellsNarrow (program : Program) (code : CodePoint) (u : ℕ) (point : PointRows) : Type 0 where
  pub procedure : point.proc_entry ≡ code.point.proc_entry
  pub address : point.address ≡ code.point.address
  pub state : TellsNarrowState program u point.state

pub record IsNarrowReportOf (program : Program) (points : FlowPoints) (names : List Name) (report : NarrowReport) : Type 0 where
  pub names_are : report.tracked.names ≡ names
  pub count : length report.points ≡ length points.points
  pub told : (u : ℕ) (code : CodePoint) (point : PointRows) → slice_get points.points u ≡ Some code →
      slice_get report.points u ≡ Some point → TellsNarrow program code u point

pub record IsNarrowReportOver (bytes list : List ℕ) (report : NarrowReport) : Type 0 where
  pub points : FlowPoints
  pub names : List Name
  pub program : Program
  pub accepted : IsNarrowAccepted bytes list points names
  pub lifted : IsLiftedBy Narrow points names program
  pub few_heads : HasFewHeads program
  pub is_report : IsNarrowReportOf program points names report

-- What a report says of a program.
--
--   TellsState program u state          the state says that no open path comes to node u, or has the rows that generate the
--                                       relations which hold there
--   Tells program code u point          the point is that of the code, and tells the relations that hold at node u
--   IsReportOf program points names report certs
--                                       these are the certificates of the program; and the report is of version 2, has these
--                                       names, tells these certificates, and of each of the points in turn what holds at its node
--   IsLiftedFrom bytes list points names program
--                                       the file's bytes and the list are accepted, with these points and names, and this is
--                                       the program that is lifted from them
--   IsReportOver bytes list report certs
--                                       so they are, the program has no more heads than it may, and the report and the certificates
--                                       are those of the program
-- A report keeps that the rows of each of its points are reduced, so that there is one such report.
use Rattle.std.specs.Prelude.{◌≡◌, ℕ, List, Some, map, length, slice_get}
use Rattle.row_modules.specs.Modules.{Generates}
use Rattle.flow_points.specs.PointLists.{FlowPoints}
use Rattle.flow_points.specs.declared.code_points.CodePoint.{CodePoint}
use Rattle.affine_prog.specs.declared.Program.{Program}
use Rattle.affine_prog.specs.Relations.{IsReached, Holds}
use Rattle.affine_lift.specs.Lifting.{IsLifted}
use Rattle.report_text.specs.declared.names.Name.{Name}
use Rattle.report_text.specs.declared.points.PointRows.{PointRows}
use Rattle.report_text.specs.declared.points.PointState.{PointState}
use Rattle.report_text.specs.declared.points.PointState.TheVariants.{Unreached, Rows}
use Rattle.report_text.specs.declared.reports.Report.{Report}
use Rattle.analyser_core.specs.Accepted.{IsAcceptedAs}
use Rattle.analyser_core.specs.Heads.{HasFewHeads}
use Rattle.analyser_core.specs.Certified.{AreCertificatesOf, told_in, told_of}
use Rattle.analyser_core.specs.declared.cert_line.CertLine.{CertLine}

abbrev pub TellsState : Program → ℕ → PointState → Type 0
TellsState program u Unreached = IsReached program u → ⊥
TellsState program u (Rows rows) = IsReached program u × Generates 17 rows (Holds program u)

pub record Tells (program : Program) (code : CodePoint) (u : ℕ) (point : PointRows) : Type 0 where
  pub procedure : point.proc_entry ≡ code.point.proc_entry
  pub address : point.address ≡ code.point.address
  pub state : TellsState program u point.state

pub record IsReportOf (program : Program) (points : FlowPoints) (names : List Name) (report : Report) (certs : List CertLine) : Type 0 where
  pub version_is : report.version ≡ 2
  pub certified : AreCertificatesOf program points names certs
  pub words : map told_of report.certs ≡ map told_in certs
  pub names_are : report.tracked.names ≡ names
  pub count : length report.points ≡ length points.points
  pub told : (u : ℕ) (code : CodePoint) (point : PointRows) → slice_get points.points u ≡ Some code →
      slice_get report.points u ≡ Some point → Tells program code u point

pub record IsLiftedFrom (bytes list : List ℕ) (points : FlowPoints) (names : List Name) (program : Program) : Type 0 where
  pub accepted : IsAcceptedAs bytes list points names
  pub lifted : IsLifted points names program

pub record IsReportOver (bytes list : List ℕ) (report : Report) (certs : List CertLine) : Type 0 where
  pub points : FlowPoints
  pub names : List Name
  pub program : Program
  pub lifted : IsLiftedFrom bytes list points names program
  pub few_heads : HasFewHeads program
  pub is_report : IsReportOf program points names report certs

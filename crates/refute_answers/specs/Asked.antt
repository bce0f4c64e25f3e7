-- What is told of a row at a point of a file.
--
--   HasProgram points names program   the program is that of the points with these names, and has no more heads than it may
--   IsTold points names at row text   there is such a point; the text of the row tells one over the names that are seen in the
--                                     point's procedure; and the text is that of an answer whether it holds at the point: that it
--                                     holds exactly where it does, or a counterexample
--   IsOver bytes list Is              the bytes, their code and the list are accepted, and so it is of the points and the names
--   IsStranger points names at        there is a program, but no such point
--   IsBadRow points names at row refusal   there are a program and such a point, but for this cause the row's text tells none there
--   IsRefuteAnswer bytes list at row text   what is told of the bytes' file
--   IsRefuteRefusal bytes list at row refusal   the first cause for which nothing is told: what an analysis would be refused for; that
--                                     there is no such point; or what is wrong with the row's text; or memory was wanting
use Rattle.std.specs.Prelude.{◌≡◌, ℕ, List, Contains, Some, Result, Ok, Err, slice_get}
use Rattle.flow_points.specs.PointLists.{FlowPoints, places_of}
use Rattle.flow_points.specs.declared.code_points.Point.{Point}
use Rattle.flow_points.specs.declared.code_points.CodePoint.{CodePoint}
use Rattle.report_text.specs.declared.names.Name.{Name}
use Rattle.affine_prog.specs.declared.Program.{Program}
use Rattle.affine_prog.specs.Programs.{IsWellFormed}
use Rattle.affine_lift.specs.Lifting.{IsLifted}
use Rattle.analyser_core.specs.Accepted.{IsAcceptedAs, IsRefusal}
use Rattle.analyser_core.specs.Heads.{HasFewHeads}
use Rattle.row_read.specs.Rows.{IsRowReading}
use Rattle.row_read.specs.declared.refusal.RowRefusal.{RowRefusal}
use Rattle.refute_path.specs.Answers.{IsAnswer}
use Rattle.refute_path.specs.declared.answer.Refuted.{Refuted}
use Rattle.refute_text.specs.Text.{refuted_text}
use Rattle.refute_answers.specs.declared.refusal.RefuteRefusal.{RefuteRefusal}
use Rattle.refute_answers.specs.declared.refusal.RefuteRefusal.TheVariants.{File, NoSuchPoint, Row}

pub record HasProgram (points : FlowPoints) (names : List Name) (program : Program) : Type 0 where
  pub lifted : IsLifted points names program
  pub formed : IsWellFormed program
  pub few_heads : HasFewHeads program

pub record IsTold (points : FlowPoints) (names : List Name) (at : Point) (row text : List ℕ) : Type 0 where
  pub program : Program
  pub has : HasProgram points names program
  pub node : ℕ
  pub code : CodePoint
  pub there : slice_get points.points node ≡ Some code
  pub is_at : code.point ≡ at
  pub asked : List ℕ
  pub reads : IsRowReading names at.proc_entry row (Ok asked)
  pub answer : Refuted
  pub is_answer : IsAnswer program node asked answer
  pub text_is : text ≡ refuted_text points names program answer

pub record IsOver (bytes list : List ℕ) (Is : FlowPoints → List Name → Type 0) : Type 0 where
  pub points : FlowPoints
  pub names : List Name
  pub accepted : IsAcceptedAs bytes list points names
  pub is : Is points names

pub record IsStranger (points : FlowPoints) (names : List Name) (at : Point) : Type 0 where
  pub program : Program
  pub has : HasProgram points names program
  pub none : Contains (places_of points.points) at → ⊥

pub record IsBadRow (points : FlowPoints) (names : List Name) (at : Point) (row : List ℕ) (refusal : RowRefusal) : Type 0 where
  pub program : Program
  pub has : HasProgram points names program
  pub there : Contains (places_of points.points) at
  pub reads : IsRowReading names at.proc_entry row (Err refusal)

abbrev pub IsRefuteAnswer : List ℕ → List ℕ → Point → List ℕ → List ℕ → Type 0
IsRefuteAnswer bytes list at row text = IsOver bytes list (λ points names. IsTold points names at row text)

abbrev pub IsRefuteRefusal : List ℕ → List ℕ → Point → List ℕ → RefuteRefusal → Type 0
IsRefuteRefusal bytes list at row (File refusal) = IsRefusal bytes list refusal
IsRefuteRefusal bytes list at row (NoSuchPoint address) =
    (address ≡ at.address) × IsOver bytes list (λ points names. IsStranger points names at)
IsRefuteRefusal bytes list at row (Row refusal) = IsOver bytes list (λ points names. IsBadRow points names at row refusal)

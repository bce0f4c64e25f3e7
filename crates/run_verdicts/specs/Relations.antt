-- What verdicts tell of relations.
--
--   IsTrueReport lift told        each row that the report tells of a point holds there, and each point that it calls unreached
--                                 is unreached
--   NoRelationFailsInQuiet        a run that the watches of stores, returns and code find quiet before a record breaks no row of
--                                 a true report there
--   IsCausedEarlier seen found    a watch of stores, of returns or of code has a finding of a lower index
--   FailuresAreCaused             where the watch of relations of a true report has a finding, so has one of these, of a lower
--                                 index
use Rattle.std.specs.Prelude.{◌≡◌, ℕ, ◌<◌, List, All, Contains, take, slice_get, None, Some}
use Rattle.elf_image.specs.declared.image.Image.{Image}
use Rattle.affine_prog.specs.Relations.{Holds, IsReached}
use Rattle.flow_points.specs.declared.code_points.CodePoint.{CodePoint}
use Rattle.report_text.specs.declared.points.PointRows.{PointRows}
use Rattle.report_text.specs.declared.reports.Report.{Report}
use Rattle.report_text.specs.declared.points.PointState.TheVariants.{Rows, Unreached}
use Rattle.run_paths.specs.Lifts.{Lift, node}
use Rattle.run_watch.specs.Judges.{relation_detail}
use Rattle.run_watch.specs.Runs.{Sight, told_at, verdict}
use Rattle.run_watch.specs.declared.context.Found.{Found}
use Rattle.run_verdicts.specs.Runs.{IsQuiet}
use Rattle.run_verdicts.specs.Whole.{IsOtherKind, IsWatchedRun}

pub record IsTrueReport (lift : Lift) (told : List PointRows) : Type 0 where
  pub rows : (c : CodePoint) (rows : List (List ℕ)) → Contains lift.points.points c → told_at told c.point ≡ Some (Rows rows)
      → All (Holds lift.program (node lift c.point)) rows
  pub unreached : (c : CodePoint) → Contains lift.points.points c → told_at told c.point ≡ Some Unreached
      → IsReached lift.program (node lift c.point) → ⊥

abbrev pub NoRelationFailsInQuiet : Type 0
NoRelationFailsInQuiet =
    (image : Image) (lift : Lift) (report : Report) (limit : ℕ) (seen : List Sight) (i : ℕ) (s : Sight)
    → IsWatchedRun image lift report limit seen → IsTrueReport lift report.points → slice_get seen i ≡ Some s
    → IsQuiet (take i seen)
    → relation_detail s.moment ≡ None

pub record IsCausedEarlier (seen : List Sight) (found : Found) : Type 0 where
  pub kind : ℕ
  pub other : IsOtherKind kind
  pub cause : Found
  pub is : verdict kind None seen ≡ Some cause
  pub earlier : cause.index < found.index

abbrev pub FailuresAreCaused : Type 0
FailuresAreCaused =
    (image : Image) (lift : Lift) (report : Report) (limit : ℕ) (seen : List Sight) (found : Found)
    → IsWatchedRun image lift report limit seen → IsTrueReport lift report.points
    → verdict 1 None seen ≡ Some found
    → IsCausedEarlier seen found

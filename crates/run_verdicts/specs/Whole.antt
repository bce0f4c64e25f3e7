-- Whole runs that are watched.
--
--   IsWatchedRun image lift report limit seen
--                                 this is seen of a run of the image, of at most so many steps, by a report whose names are
--                                 those of the lift
--   IsOtherKind kind              it is the kind of a watch of stores, of returns or of code
--   IsWholeSeen                   what is seen are steps of a run of the image, a record each, and then records of no step, which
--                                 change no verdict of these kinds
--   WholeRunsAreRuns              so it is of each run that is watched
--   AreCounted seen               each record's index is the number of those before it
--   RecordsAreCounted             so it is of each run that is watched
use Rattle.std.specs.Prelude.{◌≡◌, ◌⊎◌, ℕ, false, List, ◌++◌, All, slice_get, Option, Some}
use Rattle.elf_image.specs.declared.image.Image.{Image}
use Rattle.frame_offsets.specs.Frames.{AreOffsetsOf}
use Rattle.report_text.specs.declared.reports.Report.{Report}
use Rattle.rv_step.specs.Harts.{Hart}
use Rattle.run_paths.specs.Lifts.{Lift, IsLiftOf}
use Rattle.run_watch.specs.Runs.{IsRunOf, Scene, Sight, verdict}
use Rattle.run_watch.specs.declared.context.Found.{Found}
use Rattle.run_watch.specs.declared.stops.RunStop.{RunStop}
use Rattle.run_verdicts.specs.Runs.{AreSeenSteps}
use Rattle.run_verdicts.specs.Seen.{IsSceneOf}

pub record IsWatchedRun (image : Image) (lift : Lift) (report : Report) (limit : ℕ) (seen : List Sight) : Type 0 where
  pub lifts : IsLiftOf image lift
  pub names : report.tracked.names ≡ lift.names
  pub offsets : List (Option ℕ)
  pub offsets_are : AreOffsetsOf lift.points offsets
  pub regs : List ℕ
  pub steps : ℕ
  pub stop : RunStop
  pub run : IsRunOf image lift.points offsets report regs limit seen steps stop

abbrev pub IsOtherKind : ℕ → Type 0
IsOtherKind kind = (kind ≡ 2) ⊎ ((kind ≡ 3) ⊎ (kind ≡ 4))

pub record IsWholeSeen (image : Image) (lift : Lift) (limit : ℕ) (seen : List Sight) : Type 0 where
  pub scene : Scene
  pub scene_is : IsSceneOf image lift scene
  pub made : List Sight
  pub closing : List Sight
  pub all : seen ≡ made ++ closing
  pub run : ℕ → Hart
  pub steps : AreSeenSteps image lift scene limit made run
  pub unmade : All (λ s. s.told.made ≡ false) closing
  pub same : (kind : ℕ) (state : Option Found) → IsOtherKind kind → verdict kind state seen ≡ verdict kind state made

abbrev pub WholeRunsAreRuns : Type 0
WholeRunsAreRuns =
    (image : Image) (lift : Lift) (report : Report) (limit : ℕ) (seen : List Sight) → IsWatchedRun image lift report limit seen
    → IsWholeSeen image lift limit seen

abbrev pub AreCounted : List Sight → Type 0
AreCounted seen = (i : ℕ) (s : Sight) → slice_get seen i ≡ Some s → s.told.index ≡ i

abbrev pub RecordsAreCounted : Type 0
RecordsAreCounted =
    (image : Image) (lift : Lift) (report : Report) (limit : ℕ) (seen : List Sight) → IsWatchedRun image lift report limit seen
    → AreCounted seen

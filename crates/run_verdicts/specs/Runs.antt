-- The runs that watches see, as runs of the machine that keep the discipline.
--
--   IsSeenStep                    watches see this step of a run: from the machine m to the machine n, with these activations;
--                                 s is what they see
--   AreSeenSteps image lift scene limit seen run
--                                 the first steps of this run of the image are those of which this is seen
--   IsSeenRun image lift scene limit seen last run
--                                 so it is, and then the run is at the last spot
--   WatchedRunsAreRuns            what watches see from a beginning on is a run of the image, with its activations
--   IsQuiet seen                  the watches of stores, returns and code find nothing in what is seen
--   QuietRunsKeepDiscipline       a run keeps the discipline as long as these watches find nothing
--   KeepsAt lift m activations P  P holds of the step from the machine m: of its point, the last activation and the earlier ones
--   FindsFirstBreaches            each of these watches has found nothing as long as each step kept its rule: the one for slots,
--                                 that for returns, or that for code; so it finds the first step that breaks the rule
--   VerdictsFindFirstBreaches     so it is of each run that is seen
--   StrayReturnsAreFound          a return that goes elsewhere than behind its call, or of the first activation, is found by the
--                                 watch of returns
use Rattle.std.specs.Prelude.{◌≡◌, ◌≢◌, ◌↔◌, ℕ, suc, ◌<◌, ◌≤◌, List, ◌∷◌, length, take, slice_get, None, Some}
use Rattle.elf_image.specs.declared.image.Image.{Image}
use Rattle.flow_points.specs.declared.code_points.CodePoint.{CodePoint}
use Rattle.rv_step.specs.Harts.{Hart}
use Rattle.rv_step.specs.Machines.{hart_of}
use Rattle.rv_step.specs.declared.machine.Machine.{Machine}
use Rattle.run_paths.specs.Lifts.{Lift}
use Rattle.run_paths.specs.Activations.{Activation, activations_at, point_of}
use Rattle.run_paths.specs.Discipline.{IsRunTo, KeepsDiscipline, LeavesCode, LeavesSlots, ReturnsToCaller, RestoresFrame}
use Rattle.run_watch.specs.Activations.{Leaves}
use Rattle.run_watch.specs.Judges.{return_detail}
use Rattle.run_watch.specs.Runs.{Begins, MakesStep, Reaches, Scene, Sight, Spot, verdict}
use Rattle.run_verdicts.specs.Seen.{IsSceneOf, IsStackSeen}

pub record IsSeenStep (lift : Lift) (scene : Scene) (limit : ℕ) (activations : List Activation) (m n : Hart)
    (s : Sight) : Type 0 where
  pub spot : Spot
  pub hart : hart_of spot.machine ≡ m
  pub stack : IsStackSeen lift activations spot.stack
  pub i : ℕ
  pub c : CodePoint
  pub machine : Machine
  pub next : hart_of machine ≡ n
  pub makes : MakesStep scene limit spot i c s machine

pub record AreSeenSteps (image : Image) (lift : Lift) (scene : Scene) (limit : ℕ) (seen : List Sight)
    (run : ℕ → Hart) : Type 0 where
  pub runs : IsRunTo image run (length seen)
  pub each : (i : ℕ) (s : Sight) → slice_get seen i ≡ Some s
      → IsSeenStep lift scene limit (activations_at lift run i) (run i) (run (suc i)) s

pub record IsSeenRun (image : Image) (lift : Lift) (scene : Scene) (limit : ℕ) (seen : List Sight) (last : Spot)
    (run : ℕ → Hart) : Type 0 where
  pub steps : AreSeenSteps image lift scene limit seen run
  pub ends : run (length seen) ≡ hart_of last.machine
  pub stack : IsStackSeen lift (activations_at lift run (length seen)) last.stack

abbrev pub WatchedRunsAreRuns : Type 0
WatchedRunsAreRuns =
    (image : Image) (lift : Lift) (scene : Scene) (limit : ℕ) (regs : List ℕ) (start last : Spot) (seen : List Sight)
    → IsSceneOf image lift scene → Begins image regs start → Reaches scene limit start seen last
    → (run : ℕ → Hart) × IsSeenRun image lift scene limit seen last run

pub record IsQuiet (seen : List Sight) : Type 0 where
  pub stores : verdict 2 None seen ≡ None
  pub returns : verdict 3 None seen ≡ None
  pub code : verdict 4 None seen ≡ None

abbrev pub QuietRunsKeepDiscipline : Type 0
QuietRunsKeepDiscipline =
    (image : Image) (lift : Lift) (scene : Scene) (limit : ℕ) (seen : List Sight) (run : ℕ → Hart) (k : ℕ)
    → IsSceneOf image lift scene → AreSeenSteps image lift scene limit seen run → k ≤ length seen → IsQuiet (take k seen)
    → KeepsDiscipline lift run k

pub record KeepsAt (lift : Lift) (m : Hart) (activations : List Activation)
    (P : CodePoint → Activation → List Activation → Type 0) : Type 0 where
  pub last : Activation
  pub earlier : List Activation
  pub are : activations ≡ last ∷ earlier
  pub at : CodePoint
  pub is_at : point_of lift m activations ≡ Some at
  pub keeps : P at last earlier

pub record FindsFirstBreaches (lift : Lift) (seen : List Sight) (run : ℕ → Hart) (k : ℕ) : Type 0 where
  pub stores : (verdict 2 None (take k seen) ≡ None) ↔ ((i : ℕ) → i < k → KeepsAt lift (run i) (activations_at lift run i)
      (λ c last earlier. LeavesSlots lift (run i) (run (suc i)) c last earlier))
  pub returns : (verdict 3 None (take k seen) ≡ None) ↔ ((i : ℕ) → i < k → KeepsAt lift (run i) (activations_at lift run i)
      (λ c last earlier. ReturnsToCaller (run (suc i)) c last × RestoresFrame lift (run i) c last))
  pub code : (verdict 4 None (take k seen) ≡ None) ↔ ((i : ℕ) → i < k → LeavesCode lift (run i) (run (suc i)))

abbrev pub VerdictsFindFirstBreaches : Type 0
VerdictsFindFirstBreaches =
    (image : Image) (lift : Lift) (scene : Scene) (limit : ℕ) (seen : List Sight) (run : ℕ → Hart) (k : ℕ)
    → IsSceneOf image lift scene → AreSeenSteps image lift scene limit seen run → k ≤ length seen
    → FindsFirstBreaches lift seen run k

abbrev pub StrayReturnsAreFound : Type 0
StrayReturnsAreFound =
    (image : Image) (lift : Lift) (scene : Scene) (limit : ℕ) (regs : List ℕ) (start last : Spot) (seen : List Sight) (i : ℕ)
    (c : CodePoint) (s : Sight) (machine : Machine) → IsSceneOf image lift scene → Begins image regs start
    → Reaches scene limit start seen last → MakesStep scene limit last i c s machine → Leaves c.flow s.told.next last.stack
    → return_detail s.moment s.told ≢ None

-- What the findings of watches tell of one step.
--
--   IsStepSeen                    watches see this step: from the spot a, at the point c, to this machine, while these
--                                 activations are open; s is what they see
--   FindingsTell                  the watches of stores, returns and code find nothing there exactly where the step keeps
--                                 the rules of the discipline for slots, for returns and for code
--   WatchesTell                   so it is of each step that is seen
use Rattle.std.specs.Prelude.{◌≡◌, ◌↔◌, ℕ, List, None}
use Rattle.elf_image.specs.declared.image.Image.{Image}
use Rattle.flow_points.specs.declared.code_points.CodePoint.{CodePoint}
use Rattle.rv_step.specs.Harts.{Hart, IsHart}
use Rattle.rv_step.specs.Machines.{hart_of}
use Rattle.rv_step.specs.declared.machine.Machine.{Machine}
use Rattle.run_paths.specs.Lifts.{Lift}
use Rattle.run_paths.specs.Activations.{Activation}
use Rattle.run_paths.specs.Discipline.{LeavesCode, LeavesSlots, ReturnsToCaller, RestoresFrame}
use Rattle.run_watch.specs.Judges.{code_detail, return_detail, store_detail}
use Rattle.run_watch.specs.Runs.{Scene, Sight, Spot, MakesStep}
use Rattle.run_verdicts.specs.Seen.{AreSeen, IsSceneOf, IsSeen}

pub record IsStepSeen (image : Image) (lift : Lift) (scene : Scene) (limit : ℕ) (a : Spot) (i : ℕ) (c : CodePoint) (s : Sight)
    (machine : Machine)
    (last : Activation) (earlier : List Activation) : Type 0 where
  pub scene_is : IsSceneOf image lift scene
  pub hart : IsHart (hart_of a.machine)
  pub makes : MakesStep scene limit a i c s machine
  pub last_seen : IsSeen lift last a.stack.last
  pub earlier_seen : AreSeen lift earlier a.stack.earlier

pub record FindingsTell (lift : Lift) (m n : Hart) (c : CodePoint) (last : Activation) (earlier : List Activation)
    (s : Sight) : Type 0 where
  pub stores : (store_detail s.moment s.told ≡ None) ↔ LeavesSlots lift m n c last earlier
  pub returns : (return_detail s.moment s.told ≡ None) ↔ (ReturnsToCaller n c last × RestoresFrame lift m c last)
  pub code : (code_detail s.moment s.told ≡ None) ↔ LeavesCode lift m n

abbrev pub WatchesTell : Type 0
WatchesTell =
    (image : Image) (lift : Lift) (scene : Scene) (limit : ℕ) (a : Spot) (i : ℕ) (c : CodePoint) (s : Sight) (machine : Machine)
    (last : Activation) (earlier : List Activation) → IsStepSeen image lift scene limit a i c s machine last earlier
    → FindingsTell lift (hart_of a.machine) (hart_of machine) c last earlier s

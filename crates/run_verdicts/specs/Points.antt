-- Runs of accepted code end at its points.
--
--   IsAcceptedCode image points   the image's code isn't refused, and these are its points
--   EndsAtPoint scene a           the run is at a point; and where the word in memory is that point's, nothing stops the machine
--                                 there but an EBREAK or an ECALL
--   RunsEndAtPoints               so it is wherever a run from a beginning comes
--   IsLeftFor scene limit a at    the run leaves from a to the address `at`: the word in memory is not the point's, or a return
--                                 goes elsewhere than to its caller
--   RunsLeaveForCause             no run from a beginning leaves otherwise
--   IsShownAt scene a after       what is seen behind the run's stop is one closing record, at a point
--   StopsAreShown                 so it is wherever a run from a beginning stops otherwise than by leaving
use Rattle.std.specs.Prelude.{◌≡◌, ◌≢◌, ℕ, List, [], ◌∷◌, None}
use Rattle.elf_image.specs.declared.image.Image.{Image}
use Rattle.flow_points.specs.PointLists.{ArePointsOf, FlowPoints}
use Rattle.flow_points.specs.Refusals.{IsFlowRefusal}
use Rattle.flow_points.specs.declared.code_points.CodePoint.{CodePoint}
use Rattle.refusals.specs.declared.flow.FlowRefusal.{FlowRefusal}
use Rattle.rv_step.specs.Machines.{hart_of}
use Rattle.rv_step.specs.Records.{StopsWith}
use Rattle.rv_step.specs.declared.machine.Machine.{Machine}
use Rattle.rv_step.specs.declared.records.Stop.{Stop}
use Rattle.run_watch.specs.Activations.{Leaves}
use Rattle.run_watch.specs.Runs.{Begins, Ends, IsAtPoint, IsClosingSight, MakesStep, Reaches, Scene, Sight, Spot, has_word, pc_of, run_stop}
use Rattle.run_watch.specs.declared.stops.RunStop.{RunStop}
use Rattle.run_watch.specs.declared.stops.RunStop.TheVariants.{Left}

pub record IsAcceptedCode (image : Image) (points : FlowPoints) : Type 0 where
  pub accepted : (refusal : FlowRefusal) → IsFlowRefusal image refusal → ⊥
  pub points_are : ArePointsOf image points

pub record EndsAtPoint (scene : Scene) (a : Spot) : Type 0 where
  pub i : ℕ
  pub c : CodePoint
  pub at : IsAtPoint scene a i c
  pub stops : has_word a c → (why : Stop) → StopsWith (hart_of a.machine) why → run_stop why ≢ None

abbrev pub RunsEndAtPoints : Type 0
RunsEndAtPoints =
    (image : Image) (scene : Scene) (limit : ℕ) (regs : List ℕ) (start last : Spot) (seen : List Sight)
    → IsAcceptedCode image scene.points → Begins image regs start → Reaches scene limit start seen last → EndsAtPoint scene last

pub data IsLeftFor (scene : Scene) (limit : ℕ) (a : Spot) (address : ℕ) : Type 0 where
  altered : (i : ℕ) (c : CodePoint) → IsAtPoint scene a i c → (has_word a c → ⊥) → address ≡ pc_of a
      → IsLeftFor scene limit a address
  returned : (i : ℕ) (c : CodePoint) (s : Sight) (machine : Machine) → MakesStep scene limit a i c s machine
      → Leaves c.flow s.told.next a.stack → address ≡ s.told.next → IsLeftFor scene limit a address

abbrev pub RunsLeaveForCause : Type 0
RunsLeaveForCause =
    (image : Image) (scene : Scene) (limit : ℕ) (regs : List ℕ) (start last : Spot) (before after : List Sight)
    (steps address : ℕ) → IsAcceptedCode image scene.points → Begins image regs start → Reaches scene limit start before last
    → Ends scene limit last after steps (Left address) → IsLeftFor scene limit last address

pub record IsShownAt (scene : Scene) (a : Spot) (after : List Sight) : Type 0 where
  pub i : ℕ
  pub c : CodePoint
  pub at : IsAtPoint scene a i c
  pub s : Sight
  pub closing : IsClosingSight scene a i c s
  pub alone : after ≡ s ∷ []

abbrev pub StopsAreShown : Type 0
StopsAreShown =
    (image : Image) (scene : Scene) (limit : ℕ) (regs : List ℕ) (start last : Spot) (before after : List Sight)
    (steps : ℕ) (stop : RunStop) → IsAcceptedCode image scene.points → Begins image regs start
    → Reaches scene limit start before last → Ends scene limit last after steps stop
    → ((address : ℕ) → stop ≢ Left address) → IsShownAt scene last after

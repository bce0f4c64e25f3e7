-- The turns of a run.
--
--   Stepped m n moment here i flow seen outcome   the machine m at point i, whose flow is given, goes to n by a step or stays, and
--                                what is seen of it: the step at this moment; or, where the run stops, this closing record
--   IsMade scene limit a n i flow told seen   the machine goes from a to n by a step that is told so and seen, at the point i,
--                                whose flow is given
--   Tried scene limit a n seen outcome   from a the machine goes to n by such a step, or the run stops at a
use Rattle.std.specs.Prelude.{◌≡◌, ℕ, ◌+◌, ◌-◌, ◌^◌, min, List, [], ◌∷◌, None, Some}
use Rattle.flow_points.specs.declared.code_points.CodePoint.{CodePoint}
use Rattle.flow_points.specs.declared.code_points.Flow.{Flow}
use Rattle.rv_step.specs.Machines.{hart_of, made_of}
use Rattle.rv_step.specs.Records.{IsRecord, StopsWith}
use Rattle.rv_step.specs.Steps.{Step}
use Rattle.rv_step.specs.declared.machine.Machine.{Machine}
use Rattle.rv_step.specs.declared.records.StepRec.{StepRec}
use Rattle.rv_step.specs.declared.records.Stop.{Stop}
use Rattle.run_watch.specs.Moments.{Moment}
use Rattle.run_watch.specs.Runs.{Scene, Spot, Sight, MakesStep, Ends, run_stop, sight_of}
use Rattle.run_watch.specs.declared.outcomes.Outcome.{Outcome}
use Rattle.run_watch.specs.declared.outcomes.Outcome.TheVariants.{Stopped, Made}
use Rattle.run_watch.specs.declared.stops.RunStop.{RunStop}
use Rattle.run_watch.specs.declared.stops.RunStop.TheVariants as run

pub data Stepped (m n : Machine) (moment : Moment) (here : StepRec) (i : ℕ) (flow : Flow) (seen : List Sight) (outcome : Outcome)
    : Type 0 where
  made : (told : StepRec) → ((why : Stop) → StopsWith (hart_of m) why → ⊥) → Step (hart_of m) (hart_of n) → IsRecord m n told
      → made_of n ≡ min (made_of m + 1) (2 ^ 64 - 1) → seen ≡ sight_of moment told ∷ [] → outcome ≡ Made i flow told → Stepped m n moment here i flow seen outcome
  stops : (why : Stop) (stop : RunStop) → StopsWith (hart_of m) why → run_stop why ≡ Some stop → made_of n ≡ made_of m
      → seen ≡ sight_of moment here ∷ [] → outcome ≡ Stopped stop → Stepped m n moment here i flow seen outcome
  strays : (why : Stop) → StopsWith (hart_of m) why → run_stop why ≡ None → made_of n ≡ made_of m
      → seen ≡ [] → outcome ≡ Stopped (run.Left here.pc) → Stepped m n moment here i flow seen outcome

pub record IsMade (scene : Scene) (limit : ℕ) (a : Spot) (n : Machine) (i : ℕ) (flow : Flow) (told : StepRec) (seen : List Sight)
    : Type 0 where
  pub s : Sight
  pub c : CodePoint
  pub makes : MakesStep scene limit a i c s n
  pub one : seen ≡ s ∷ []
  pub tells : s.told ≡ told
  pub flows : c.flow ≡ flow

abbrev pub Tried : Scene → ℕ → Spot → Machine → List Sight → Outcome → Type 0
Tried scene limit a n seen (Stopped stop) = Ends scene limit a seen (made_of n) stop
Tried scene limit a n seen (Made i flow told) = IsMade scene limit a n i flow told seen

-- What a moment tells of the slots.
use Rattle.std.proofs.Common.{◌≡◌, ◌↔◌, ℕ, ◌+◌, ◌≤◌, IsTrue, List, length}
use Rattle.row_modules.specs.Positions.{has}
use Rattle.flow_points.specs.declared.code_points.CodePoint.{CodePoint}
use Rattle.affine_lift.specs.Lifting.{IsSlotAt}
use Rattle.run_paths.specs.Lifts.{Lift}
use Rattle.run_paths.specs.Activations.{Activation}
use Rattle.run_paths.specs.Discipline.{Assigns}
use Rattle.run_watch.specs.Activations.{slots_from, slots_of}
use Rattle.run_watch.specs.Moments.{Moment}
use Rattle.run_watch.specs.declared.activation.Activation.{Activation as Watched}
use Rattle.run_verdicts.specs.Seen.{AreSeen, IsSeen}

-- what the moment tells of the slots
pub record TellsSlots (lift : Lift) (c : CodePoint) (last : Activation) (earlier : List Activation)
    (moment : Moment) : Type 0 where
  pub below : List Watched
  pub top : Watched
  pub last_seen : IsSeen lift last top
  pub earlier_seen : AreSeen lift earlier below
  pub depth : moment.depth ≡ length below + 1
  pub earlier_slots : moment.slots.earlier ≡ slots_from lift.names 1 below
  pub last_slots : moment.slots.last ≡ slots_of lift.names (length below + 1) top
  pub writable : (k : ℕ) → IsTrue (has moment.writable k) ↔ (IsSlotAt lift.names k × Assigns lift c k)
  pub few : length lift.names ≤ 16

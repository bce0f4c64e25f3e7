-- What watches see where a run stops.
use Rattle.std.proofs.Common.{◌≡◌, ◌⊎◌, ℕ, List, [], ◌∷◌, inl, inr}
use Rattle.flow_points.specs.declared.code_points.CodePoint.{CodePoint}
use Rattle.run_watch.specs.Runs.{Describes, Ends, IsAtPoint, Scene, Sight, Spot, altered, budget, deep, leaves, lost, lost_at_limit, steps_of, stops, strays}
use Rattle.run_watch.specs.declared.stops.RunStop.{RunStop}

pub record IsLastSight (scene : Scene) (a : Spot) (after : List Sight) : Type 0 where
  pub s : Sight
  pub is : after ≡ s ∷ []
  pub i : ℕ
  pub c : CodePoint
  pub at : IsAtPoint scene a i c
  pub moment : Describes scene a i c s.moment
  pub index : s.told.index ≡ steps_of a

pub last_sight : (scene : Scene) (limit : ℕ) (a : Spot) (after : List Sight) (steps : ℕ) (stop : RunStop)
    → Ends scene limit a after steps stop
    → (after ≡ []) ⊎ IsLastSight scene a after
last_sight scene limit a after steps stop (lost_at_limit out at none count why) = inl none
last_sight scene limit a after steps stop (lost out more none count why) = inl none
last_sight scene limit a after steps stop (budget i c s at spent closing is count why) =
    inr (record { s = s; is = is; i = i; c = c; at = at; moment = closing.moment; index = closing.closing.index })
last_sight scene limit a after steps stop (altered i c at more other none count why) = inl none
last_sight scene limit a after steps stop (deep i c s at more same call full closing is count why) =
    inr (record { s = s; is = is; i = i; c = c; at = at; moment = closing.moment; index = closing.closing.index })
last_sight scene limit a after steps stop (stops i c s reason can stopped why closing is count) =
    inr (record { s = s; is = is; i = i; c = c; at = can.at; moment = closing.moment; index = closing.closing.index })
last_sight scene limit a after steps stop (strays i c reason can stopped other none count why) = inl none
last_sight scene limit a after steps stop (leaves i c s machine makes gone is count why) =
    inr (record { s = s; is = is; i = i; c = c; at = makes.can.at; moment = makes.moment; index = makes.told.index })

-- What watches see where a run of accepted code stops.
use Rattle.std.proofs.Common.{◌≡◌, ◌≢◌, ℕ, List, [], ◌∷◌}
use Rattle.flow_points.specs.declared.code_points.CodePoint.{CodePoint}
use Rattle.run_watch.specs.declared.stops.RunStop.{RunStop}
use Rattle.run_watch.specs.declared.stops.RunStop.TheVariants.{Left}
use Rattle.run_watch.specs.Runs.{Ends, IsAtPoint, IsClosingSight, Scene, Sight, Spot, altered, budget, deep, leaves, lost, lost_at_limit, pc_of, stops, strays}
use Rattle.run_verdicts.specs.Points.{EndsAtPoint, IsShownAt}
use Rattle.run_verdicts.proofs.AtPoints.{never_off}

module _ (scene : Scene) (limit : ℕ) (a : Spot) (h : EndsAtPoint scene a) (after : List Sight) (steps : ℕ) (stop : RunStop)
    (stays : (address : ℕ) → stop ≢ Left address) where
  shown : (i : ℕ) (c : CodePoint) (s : Sight) → IsAtPoint scene a i c → IsClosingSight scene a i c s → after ≡ s ∷ []
      → IsShownAt scene a after
  shown i c s at closing alone = record { i = i; c = c; at = at; s = s; closing = closing; alone = alone }

  pub shown_at : Ends scene limit a after steps stop → IsShownAt scene a after
  shown_at (lost_at_limit off at none count why) = absurd (never_off scene a h off)
  shown_at (lost off more none count why) = absurd (never_off scene a h off)
  shown_at (budget i c s at spent closing seen count why) = shown i c s at closing seen
  shown_at (altered i c at more differs none count why) = absurd (stays (pc_of a) why)
  shown_at (deep i c s at more same call full closing seen count why) = shown i c s at closing seen
  shown_at (stops i c s why can stopped how closing seen count) = shown i c s can.at closing seen
  shown_at (strays i c why can stopped unknown none count left) = absurd (stays (pc_of a) left)
  shown_at (leaves i c s machine makes gone seen count why) = absurd (stays s.told.next why)

-- Where a run ends, no other goes on.
use Rattle.std.proofs.Common.{ℕ, List}
use Rattle.flow_points.specs.PointLists.{HasCode}
use Rattle.run_watch.specs.Runs.{Ends, Goes, Scene, Sight, Spot, altered, budget, deep, leaves, lost, lost_at_limit, stops, strays}
use Rattle.run_watch.specs.declared.stops.RunStop.{RunStop}
use Rattle.run_verdicts.proofs.Excluded.{Apart, apart, no_turn}
use Rattle.run_verdicts.proofs.OneMoment.{AreAlike}

module _ (scene : Scene) (code : HasCode scene.points) (limit : ℕ) (a b : Spot) (are : AreAlike a b) (seen : List Sight)
    (steps : ℕ) (stop : RunStop) (t : Sight) (q : Spot) where
  way : Apart scene limit a b
  way = apart scene code limit a b are

  pub no_way : Ends scene limit a seen steps stop → Goes scene limit b t q → ⊥
  no_way (lost_at_limit out _ _ _ _) g = way.off out _ _ g.makes.can.at
  no_way (lost out _ _ _ _) g = way.off out _ _ g.makes.can.at
  no_way (budget _ _ _ _ spent _ _ _ _) g = way.spent spent g.makes.can.more
  no_way (altered _ _ at _ other _ _ _) g = way.word _ _ _ _ at g.makes.can.at other g.makes.can.same
  no_way (deep _ _ _ at _ _ call full _ _ _ _) g = way.room _ _ _ _ at call full g.makes.can
  no_way (stops _ _ _ _ _ halts _ _ _ _) g = way.stays _ halts g.makes.goes_on
  no_way (strays _ _ _ _ halts _ _ _ _) g = way.stays _ halts g.makes.goes_on
  no_way (leaves i c s m makes gone _ _ _) g = no_turn scene code limit a b are i c s t m q makes gone g

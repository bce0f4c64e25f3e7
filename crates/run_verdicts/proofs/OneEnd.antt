-- Where a run ends, it ends in one way.
use Rattle.std.proofs.Common.{◌≡◌, ℕ, ◌+◌, List, [], ◌∷◌, Some, ap, sym, ◌∙◌}
use Rattle.flow_points.specs.PointLists.{HasCode}
use Rattle.flow_points.specs.declared.code_points.CodePoint.{CodePoint}
use Rattle.rv_step.specs.Machines.{hart_of, made_of}
use Rattle.rv_step.specs.Records.{StopsWith}
use Rattle.rv_step.specs.declared.machine.Machine.{Machine}
use Rattle.rv_step.specs.declared.records.Stop.{Stop}
use Rattle.run_watch.specs.Runs.{Ends, IsAtPoint, IsClosingSight, MakesStep, Scene, Sight, Spot, altered, budget, deep, leaves, lost, lost_at_limit, pc_of, run_stop, steps_of, stops, strays}
use Rattle.run_watch.specs.declared.stops.RunStop.{RunStop}
use Rattle.run_watch.specs.declared.stops.RunStop.TheVariants as run
use Rattle.run_verdicts.specs.One.{IsSameRun}
use Rattle.run_verdicts.proofs.Excluded.{Apart, apart, flip, one_reason}
use Rattle.run_verdicts.proofs.OneMoment.{AreAlike}
use Rattle.run_verdicts.proofs.OneRecord.{one_closing}
use Rattle.run_verdicts.proofs.OneTurn.{moment_there, one_made, same_sight}

module _ (scene : Scene) (code : HasCode scene.points) (limit : ℕ) (a b : Spot) (are : AreAlike a b) (seen others : List Sight)
    (steps made : ℕ) (stop end : RunStop) where
  abbrev IsOne : Type 0
  IsOne = IsSameRun seen steps stop others made end

  both : seen ≡ others → steps ≡ made → stop ≡ end → IsOne
  both sights count why = record { seen_alike = sights; as_many = count; same_stop = why }

  counted : steps ≡ steps_of a → made ≡ steps_of b → steps ≡ made
  counted h k = h ∙ are.as_many ∙ sym k

  left : stop ≡ run.Left (pc_of a) → end ≡ run.Left (pc_of b) → stop ≡ end
  left h k = h ∙ ap run.Left are.machines.pc ∙ sym k

  closed : (i j : ℕ) (c d : CodePoint) (s t : Sight) → IsAtPoint scene a i c → IsAtPoint scene b j d
      → IsClosingSight scene a i c s → IsClosingSight scene b j d t → seen ≡ s ∷ [] → others ≡ t ∷ [] → seen ≡ others
  closed i j c d s t at also h k is_seen is_other =
      is_seen
      ∙ ap (λ (u : Sight). u ∷ []) (same_sight s t
      (moment_there scene code limit a b are i j c d s.moment t.moment at also h.moment k.moment)
      (one_closing a.machine b.machine are.machines are.hart.pc are.as_many s.told t.told h.closing k.closing))
      ∙ sym is_other

  stopped : (why other : Stop) → StopsWith (hart_of a.machine) why → StopsWith (hart_of b.machine) other
      → run_stop why ≡ Some stop → run_stop other ≡ Some end → stop ≡ end
  stopped why other h k is also =
      let same : Some stop ≡ Some end = sym is ∙ ap run_stop (one_reason a b are why other h k) ∙ also in cc

  left_alike : (i j : ℕ) (c d : CodePoint) (s t : Sight) (m n : Machine) → MakesStep scene limit a i c s m
      → MakesStep scene limit b j d t n → seen ≡ s ∷ [] → others ≡ t ∷ [] → steps ≡ made_of m → made ≡ made_of n
      → stop ≡ run.Left s.told.next → end ≡ run.Left t.told.next → IsOne
  left_alike i j c d s t m n h k is_seen is_other count number why other =
      let one = one_made scene code limit a b are i j c d s t m n h k in
      both (is_seen ∙ ap (λ (u : Sight). u ∷ []) one.0 ∙ sym is_other)
      (count ∙ h.counted ∙ ap (λ (l : ℕ). l + 1) are.as_many ∙ sym k.counted ∙ sym number)
      (why ∙ ap (λ (u : Sight). run.Left u.told.next) one.0 ∙ sym other)

  here : Apart scene limit a b
  here = apart scene code limit a b are

  there : Apart scene limit b a
  there = apart scene code limit b a (flip a b are)

  pub one_end : Ends scene limit a seen steps stop → Ends scene limit b others made end → IsOne
  one_end (lost_at_limit _ _ none count why) (lost_at_limit _ _ none' count' why') =
      both (none ∙ sym none') (counted count count') (why ∙ sym why')
  one_end (lost_at_limit _ spent _ _ _) (lost _ more' _ _ _) = absurd (here.spent spent more')
  one_end (lost_at_limit out _ _ _ _) (budget _ _ _ at' _ _ _ _ _) = absurd (here.off out _ _ at')
  one_end (lost_at_limit out _ _ _ _) (altered _ _ at' _ _ _ _ _) = absurd (here.off out _ _ at')
  one_end (lost_at_limit out _ _ _ _) (deep _ _ _ at' _ _ _ _ _ _ _ _) = absurd (here.off out _ _ at')
  one_end (lost_at_limit out _ _ _ _) (stops _ _ _ _ can' _ _ _ _ _) = absurd (here.off out _ _ can'.at)
  one_end (lost_at_limit out _ _ _ _) (strays _ _ _ can' _ _ _ _ _) = absurd (here.off out _ _ can'.at)
  one_end (lost_at_limit out _ _ _ _) (leaves _ _ _ _ makes' _ _ _ _) = absurd (here.off out _ _ makes'.can.at)
  one_end (lost _ more _ _ _) (lost_at_limit _ spent' _ _ _) = absurd (there.spent spent' more)
  one_end (lost _ _ none count why) (lost _ _ none' count' why') =
      both (none ∙ sym none') (counted count count') (left why why')
  one_end (lost out _ _ _ _) (budget _ _ _ at' _ _ _ _ _) = absurd (here.off out _ _ at')
  one_end (lost out _ _ _ _) (altered _ _ at' _ _ _ _ _) = absurd (here.off out _ _ at')
  one_end (lost out _ _ _ _) (deep _ _ _ at' _ _ _ _ _ _ _ _) = absurd (here.off out _ _ at')
  one_end (lost out _ _ _ _) (stops _ _ _ _ can' _ _ _ _ _) = absurd (here.off out _ _ can'.at)
  one_end (lost out _ _ _ _) (strays _ _ _ can' _ _ _ _ _) = absurd (here.off out _ _ can'.at)
  one_end (lost out _ _ _ _) (leaves _ _ _ _ makes' _ _ _ _) = absurd (here.off out _ _ makes'.can.at)
  one_end (budget _ _ _ at _ _ _ _ _) (lost_at_limit out' _ _ _ _) = absurd (there.off out' _ _ at)
  one_end (budget _ _ _ at _ _ _ _ _) (lost out' _ _ _ _) = absurd (there.off out' _ _ at)
  one_end (budget i c s at _ close is count why) (budget i' c' s' at' _ close' is' count' why') =
      both (closed i i' c c' s s' at at' close close' is is') (counted count count') (why ∙ sym why')
  one_end (budget _ _ _ _ spent _ _ _ _) (altered _ _ _ more' _ _ _ _) = absurd (here.spent spent more')
  one_end (budget _ _ _ _ spent _ _ _ _) (deep _ _ _ _ more' _ _ _ _ _ _ _) = absurd (here.spent spent more')
  one_end (budget _ _ _ _ spent _ _ _ _) (stops _ _ _ _ can' _ _ _ _ _) = absurd (here.spent spent can'.more)
  one_end (budget _ _ _ _ spent _ _ _ _) (strays _ _ _ can' _ _ _ _ _) = absurd (here.spent spent can'.more)
  one_end (budget _ _ _ _ spent _ _ _ _) (leaves _ _ _ _ makes' _ _ _ _) = absurd (here.spent spent makes'.can.more)
  one_end (altered _ _ at _ _ _ _ _) (lost_at_limit out' _ _ _ _) = absurd (there.off out' _ _ at)
  one_end (altered _ _ at _ _ _ _ _) (lost out' _ _ _ _) = absurd (there.off out' _ _ at)
  one_end (altered _ _ _ more _ _ _ _) (budget _ _ _ _ spent' _ _ _ _) = absurd (there.spent spent' more)
  one_end (altered _ _ _ _ _ none count why) (altered _ _ _ _ _ none' count' why') =
      both (none ∙ sym none') (counted count count') (left why why')
  one_end (altered _ _ at _ other _ _ _) (deep _ _ _ at' _ same' _ _ _ _ _ _) = absurd (here.word _ _ _ _ at at' other same')
  one_end (altered _ _ at _ other _ _ _) (stops _ _ _ _ can' _ _ _ _ _) = absurd (here.word _ _ _ _ at can'.at other can'.same)
  one_end (altered _ _ at _ other _ _ _) (strays _ _ _ can' _ _ _ _ _) = absurd (here.word _ _ _ _ at can'.at other can'.same)
  one_end (altered _ _ at _ other _ _ _) (leaves _ _ _ _ makes' _ _ _ _) =
      absurd (here.word _ _ _ _ at makes'.can.at other makes'.can.same)
  one_end (deep _ _ _ at _ _ _ _ _ _ _ _) (lost_at_limit out' _ _ _ _) = absurd (there.off out' _ _ at)
  one_end (deep _ _ _ at _ _ _ _ _ _ _ _) (lost out' _ _ _ _) = absurd (there.off out' _ _ at)
  one_end (deep _ _ _ _ more _ _ _ _ _ _ _) (budget _ _ _ _ spent' _ _ _ _) = absurd (there.spent spent' more)
  one_end (deep _ _ _ at _ same _ _ _ _ _ _) (altered _ _ at' _ other' _ _ _) = absurd (there.word _ _ _ _ at' at other' same)
  one_end (deep i c s at _ _ _ _ close is count why) (deep i' c' s' at' _ _ _ _ close' is' count' why') =
      both (closed i i' c c' s s' at at' close close' is is') (counted count count') (why ∙ sym why')
  one_end (deep _ _ _ at _ _ call full _ _ _ _) (stops _ _ _ _ can' _ _ _ _ _) = absurd (here.room _ _ _ _ at call full can')
  one_end (deep _ _ _ at _ _ call full _ _ _ _) (strays _ _ _ can' _ _ _ _ _) = absurd (here.room _ _ _ _ at call full can')
  one_end (deep _ _ _ at _ _ call full _ _ _ _) (leaves _ _ _ _ makes' _ _ _ _) =
      absurd (here.room _ _ _ _ at call full makes'.can)
  one_end (stops _ _ _ _ can _ _ _ _ _) (lost_at_limit out' _ _ _ _) = absurd (there.off out' _ _ can.at)
  one_end (stops _ _ _ _ can _ _ _ _ _) (lost out' _ _ _ _) = absurd (there.off out' _ _ can.at)
  one_end (stops _ _ _ _ can _ _ _ _ _) (budget _ _ _ _ spent' _ _ _ _) = absurd (there.spent spent' can.more)
  one_end (stops _ _ _ _ can _ _ _ _ _) (altered _ _ at' _ other' _ _ _) = absurd (there.word _ _ _ _ at' can.at other' can.same)
  one_end (stops _ _ _ _ can _ _ _ _ _) (deep _ _ _ at' _ _ call' full' _ _ _ _) = absurd (there.room _ _ _ _ at' call' full' can)
  one_end (stops i c s r can halts why close is count) (stops i' c' s' r' can' halts' why' close' is' count') =
      both (closed i i' c c' s s' can.at can'.at close close' is is') (counted count count')
      (stopped r r' halts halts' why why')
  one_end (stops _ _ _ _ _ halts why _ _ _) (strays _ _ _ _ halts' astray' _ _ _) =
      absurd (here.astray _ _ _ halts halts' why astray')
  one_end (stops _ _ _ _ _ halts _ _ _ _) (leaves _ _ _ _ makes' _ _ _ _) = absurd (here.stays _ halts makes'.goes_on)
  one_end (strays _ _ _ can _ _ _ _ _) (lost_at_limit out' _ _ _ _) = absurd (there.off out' _ _ can.at)
  one_end (strays _ _ _ can _ _ _ _ _) (lost out' _ _ _ _) = absurd (there.off out' _ _ can.at)
  one_end (strays _ _ _ can _ _ _ _ _) (budget _ _ _ _ spent' _ _ _ _) = absurd (there.spent spent' can.more)
  one_end (strays _ _ _ can _ _ _ _ _) (altered _ _ at' _ other' _ _ _) = absurd (there.word _ _ _ _ at' can.at other' can.same)
  one_end (strays _ _ _ can _ _ _ _ _) (deep _ _ _ at' _ _ call' full' _ _ _ _) = absurd (there.room _ _ _ _ at' call' full' can)
  one_end (strays _ _ _ _ halts astray _ _ _) (stops _ _ _ _ _ halts' why' _ _ _) =
      absurd (there.astray _ _ _ halts' halts why' astray)
  one_end (strays _ _ _ _ _ _ none count why) (strays _ _ _ _ _ _ none' count' why') =
      both (none ∙ sym none') (counted count count') (left why why')
  one_end (strays _ _ _ _ halts _ _ _ _) (leaves _ _ _ _ makes' _ _ _ _) = absurd (here.stays _ halts makes'.goes_on)
  one_end (leaves _ _ _ _ makes _ _ _ _) (lost_at_limit out' _ _ _ _) = absurd (there.off out' _ _ makes.can.at)
  one_end (leaves _ _ _ _ makes _ _ _ _) (lost out' _ _ _ _) = absurd (there.off out' _ _ makes.can.at)
  one_end (leaves _ _ _ _ makes _ _ _ _) (budget _ _ _ _ spent' _ _ _ _) = absurd (there.spent spent' makes.can.more)
  one_end (leaves _ _ _ _ makes _ _ _ _) (altered _ _ at' _ other' _ _ _) =
      absurd (there.word _ _ _ _ at' makes.can.at other' makes.can.same)
  one_end (leaves _ _ _ _ makes _ _ _ _) (deep _ _ _ at' _ _ call' full' _ _ _ _) =
      absurd (there.room _ _ _ _ at' call' full' makes.can)
  one_end (leaves _ _ _ _ makes _ _ _ _) (stops _ _ _ _ _ halts' _ _ _ _) = absurd (there.stays _ halts' makes.goes_on)
  one_end (leaves _ _ _ _ makes _ _ _ _) (strays _ _ _ _ halts' _ _ _ _) = absurd (there.stays _ halts' makes.goes_on)
  one_end (leaves i c s m makes _ is count why) (leaves i' c' s' m' makes' _ is' count' why') =
      left_alike i i' c c' s s' m m' makes makes' is is' count count' why why'

-- What watches see of a whole run.
use Rattle.std.proofs.Common.{◌≡◌, ℕ, false, List, [], ◌∷◌, ◌++◌, refl, ap, sym, ◌∙◌}
use Rattle.std.proofs.lemmas.List.{append-nil}
use Rattle.std.proofs.lemmas.List.Elements.{All-nil}
use Rattle.elf_image.specs.declared.image.Image.{Image}
use Rattle.flow_points.proofs.Cited.{all_one}
use Rattle.report_text.specs.declared.reports.Report.{Report}
use Rattle.rv_step.specs.Harts.{Hart}
use Rattle.run_paths.specs.Lifts.{Lift}
use Rattle.run_watch.specs.Runs.{Ends, Scene, Sight, Spot, altered, budget, deep, leaves, lost, lost_at_limit, scene_of, stops, strays, verdict}
use Rattle.run_watch.specs.declared.stops.RunStop.{RunStop}
use Rattle.run_verdicts.specs.Runs.{IsSeenRun}
use Rattle.run_verdicts.specs.Seen.{IsSceneOf}
use Rattle.run_verdicts.specs.Whole.{IsWatchedRun, IsWholeSeen}
use Rattle.run_verdicts.proofs.Reached.{reached}
use Rattle.run_verdicts.proofs.Stepped.{steps_more}
use Rattle.run_verdicts.proofs.Verdicts.{verdict_behind}
use Rattle.run_verdicts.proofs.NoStep.{others_quiet}

module _ (image : Image) (lift : Lift) (scene : Scene) (limit : ℕ) (is : IsSceneOf image lift scene) (before : List Sight)
    (last : Spot)
    (run : ℕ → Hart) (h : IsSeenRun image lift scene limit before last run) where
  nothing_behind : (seen after : List Sight) → seen ≡ before ++ after → after ≡ [] → IsWholeSeen image lift limit seen
  nothing_behind seen after all none =
      let same : seen ≡ before = all ∙ ap (λ (rest : List Sight). before ++ rest) none ∙ append-nil before in
      record {
        scene = scene;
        scene_is = is;
        made = before;
        closing = [];
        all = same ∙ sym (append-nil before);
        run = run;
        steps = h.steps;
        unmade = All-nil (λ (s : Sight). s.told.made ≡ false);
        same = λ kind state other. ap (verdict kind state) same;
      }

  one_behind : (seen after : List Sight) (s : Sight) → seen ≡ before ++ after → after ≡ s ∷ [] → s.told.made ≡ false
      → IsWholeSeen image lift limit seen
  one_behind seen after s all is_after unmade =
      let same : seen ≡ before ++ s ∷ [] = all ∙ ap (λ (rest : List Sight). before ++ rest) is_after in
      record {
        scene = scene;
        scene_is = is;
        made = before;
        closing = s ∷ [];
        all = same;
        run = run;
        steps = h.steps;
        unmade = all_one (λ (t : Sight). t.told.made ≡ false) s unmade;
        same = λ kind state other. ap (verdict kind state) same
            ∙ verdict_behind kind before s state (others_quiet s.moment s.told unmade kind other);
      }

  whole_by : (seen after : List Sight) (steps : ℕ) (stop : RunStop) → seen ≡ before ++ after
      → Ends scene limit last after steps stop
      → IsWholeSeen image lift limit seen
  whole_by seen after steps stop all (lost_at_limit out at none count why) = nothing_behind seen after all none
  whole_by seen after steps stop all (lost out more none count why) = nothing_behind seen after all none
  whole_by seen after steps stop all (budget i c s at spent closing is_after count why) =
      one_behind seen after s all is_after closing.closing.made
  whole_by seen after steps stop all (altered i c at more other none count why) = nothing_behind seen after all none
  whole_by seen after steps stop all (deep i c s at more same call full closing is_after count why) =
      one_behind seen after s all is_after closing.closing.made
  whole_by seen after steps stop all (stops i c s reason can stopped why closing is_after count) =
      one_behind seen after s all is_after closing.closing.made
  whole_by seen after steps stop all (strays i c reason can stopped other none count why) = nothing_behind seen after all none
  whole_by seen after steps stop all (leaves i c s machine makes gone is_after count why) =
      let same : seen ≡ before ++ s ∷ [] = all ∙ ap (λ (rest : List Sight). before ++ rest) is_after in
      record {
        scene = scene;
        scene_is = is;
        made = before ++ s ∷ [];
        closing = [];
        all = same ∙ sym (append-nil (before ++ s ∷ []));
        run = _;
        steps = steps_more image lift scene limit is before last s run h i c machine makes;
        unmade = All-nil (λ (t : Sight). t.told.made ≡ false);
        same = λ kind state other. ap (verdict kind state) same;
      }

module _ (image : Image) (lift : Lift) (report : Report) (limit : ℕ) (seen : List Sight)
    (w : IsWatchedRun image lift report limit seen) where
  pub scene_there : IsSceneOf image lift (scene_of lift.points w.offsets report w.run.code)
  scene_there = record { lifts = w.lifts; points = refl; names = w.names; offsets = w.offsets_are; code = w.run.instructions }

  pub whole : IsWholeSeen image lift limit seen
  whole =
      let ran = w.run.watched in
      let scene = scene_of lift.points w.offsets report w.run.code in
      let run = reached image lift scene limit scene_there w.regs w.run.start ran.last ran.before w.run.begins ran.reaches in
      whole_by image lift scene limit scene_there ran.before ran.last run.0 run.1 seen ran.after w.steps w.stop ran.all ran.ends

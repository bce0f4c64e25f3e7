-- Whole runs that are watched: no relation of a true report fails while the other watches find nothing.
use Rattle.std.proofs.Common.{◌≡◌, ◌⊎◌, ℕ, ◌≤◌, List, [], ◌∷◌, ◌++◌, length, take, slice_get, Some, None, inl, inr, ap, sym, ◌∙◌, arith, subst}
use Rattle.std.proofs.lemmas.Bool.{cases_lt}
use Rattle.std.proofs.lemmas.List.{append-nil}
use Rattle.std.proofs.lemmas.Option.{slice_get_within}
use Rattle.elf_image.specs.declared.image.Image.{Image}
use Rattle.flow_points.specs.declared.code_points.CodePoint.{CodePoint}
use Rattle.rv_step.specs.Harts.{Hart}
use Rattle.run_paths.specs.Lifts.{Lift}
use Rattle.run_paths.specs.Discipline.{IsRunTo}
use Rattle.run_watch.specs.Judges.{relation_detail}
use Rattle.run_watch.specs.Runs.{Describes, IsAtPoint, Scene, Sight, Spot, scene_of}
use Rattle.run_verdicts.specs.Relations.{IsTrueReport}
use Rattle.run_verdicts.specs.Whole.{IsWatchedRun}
use Rattle.report_text.specs.declared.reports.Report.{Report}
use Rattle.run_verdicts.proofs.Whole.{scene_there}
use Rattle.run_verdicts.specs.Runs.{IsQuiet, IsSeenRun}
use Rattle.run_verdicts.specs.Seen.{IsSceneOf}
use Rattle.run_verdicts.proofs.Obeyed.{no_relation_fails}
use Rattle.run_verdicts.proofs.Quiet.{keeps_discipline}
use Rattle.run_verdicts.proofs.Pushed.{nth_before, nth_last, one_longer, taken_before}
use Rattle.run_verdicts.proofs.Reached.{reached}
use Rattle.run_verdicts.proofs.LastSight.{IsLastSight, last_sight}

shorter : (image : Image) (run : ℕ → Hart) (n i : ℕ) → i ≤ n → IsRunTo image run n → IsRunTo image run i
shorter image run n i low r = record { starts = r.starts; steps = λ j below. r.steps j (omega (arith, low, below)) }

module _ (image : Image) (lift : Lift) (scene : Scene) (limit : ℕ) (is : IsSceneOf image lift scene)
    (true_report : IsTrueReport lift scene.told)
    (before : List Sight) (last : Spot) (run : ℕ → Hart) (h : IsSeenRun image lift scene limit before last run) where
  -- before a step
  inside : (i : ℕ) (s : Sight) → slice_get before i ≡ Some s → IsQuiet (take i before) → relation_detail s.moment ≡ None
  inside i s at quiet =
      let within = slice_get_within before i s at in
      let low : i ≤ length before = omega (arith, within) in
      let step = h.steps.each i s at in
      no_relation_fails image lift scene is run i (shorter image run (length before) i low h.steps.runs)
      (keeps_discipline image lift scene is limit before run h.steps i low quiet) step.spot step.hart step.stack step.i step.c
      step.makes.can.at s.moment
      step.makes.moment true_report

  -- where the run stops
  at_stop : (i : ℕ) (c : CodePoint) (s : Sight) → IsAtPoint scene last i c → Describes scene last i c s.moment
      → IsQuiet (take (length before) before)
      → relation_detail s.moment ≡ None
  at_stop i c s at moment quiet =
      no_relation_fails image lift scene is run (length before) h.steps.runs
      (keeps_discipline image lift scene is limit before run h.steps (length before) (omega arith) quiet) last
      (sym h.ends) h.stack i c at s.moment
      moment true_report

  none_fails : (seen after : List Sight) (i : ℕ) (s : Sight) → seen ≡ before ++ after
      → (after ≡ []) ⊎ IsLastSight scene last after
      → slice_get seen i ≡ Some s → IsQuiet (take i seen) → relation_detail s.moment ≡ None
  none_fails seen after i s all (inl none) at quiet =
      let same : seen ≡ before = all ∙ ap (λ (rest : List Sight). before ++ rest) none ∙ append-nil before in
      inside i s (subst (λ (ss : List Sight). slice_get ss i ≡ Some s) same at)
      (subst (λ (ss : List Sight). IsQuiet (take i ss)) same quiet)
  none_fails seen after i s all (inr end) at quiet =
      let same : seen ≡ before ++ end.s ∷ [] = all ∙ ap (λ (rest : List Sight). before ++ rest) end.is in
      let there = subst (λ (ss : List Sight). slice_get ss i ≡ Some s) same at in
      let quiet_there = subst (λ (ss : List Sight). IsQuiet (take i ss)) same quiet in
      let within = slice_get_within (before ++ end.s ∷ []) i s there in
      let count = one_longer before end.s in
      let low : i ≤ length before = omega (arith, within, count) in
      let quiet_before = subst IsQuiet (taken_before before end.s i low) quiet_there in
      elim (cases_lt i (length before)) [
        | inl former ↦ inside i s (sym (nth_before before end.s i former) ∙ there) quiet_before
        | inr past ↦
            let at_last : i ≡ length before = omega (arith, past, low) in
            let both : Some end.s ≡ Some s = sym (nth_last before end.s) ∙ ap (slice_get (before ++ end.s ∷ [])) (sym at_last)
            ∙ there in
            let one : end.s ≡ s = cc in
            subst (λ (t : Sight). relation_detail t.moment ≡ None) one
            (at_stop end.i end.c end.s end.at end.moment (subst (λ (j : ℕ). IsQuiet (take j before)) at_last quiet_before))
      ]

pub no_relation_fails_in : (image : Image) (lift : Lift) (report : Report) (limit : ℕ) (seen : List Sight) (i : ℕ) (s : Sight)
    → IsWatchedRun image lift report limit seen → IsTrueReport lift report.points → slice_get seen i ≡ Some s
    → IsQuiet (take i seen)
    → relation_detail s.moment ≡ None
no_relation_fails_in image lift report limit seen i s w true_report at quiet =
    let ran = w.run.watched in
    let scene = scene_of lift.points w.offsets report w.run.code in
    let is = scene_there image lift report limit seen w in
    let run = reached image lift scene limit is w.regs w.run.start ran.last ran.before w.run.begins ran.reaches in
    none_fails image lift scene limit is true_report ran.before ran.last run.0 run.1 seen ran.after i s ran.all
    (last_sight scene limit ran.last ran.after w.steps w.stop ran.ends) at quiet

-- The records of a run are counted.
use Rattle.std.proofs.Common.{◌≡◌, ◌⊎◌, ℕ, List, [], ◌∷◌, ◌++◌, length, slice_get, Some, inl, inr, ap, sym, ◌∙◌, arith, subst}
use Rattle.std.proofs.lemmas.Bool.{cases_lt}
use Rattle.std.proofs.lemmas.List.{append-nil}
use Rattle.std.proofs.lemmas.Option.{slice_get_within}
use Rattle.elf_image.specs.declared.image.Image.{Image}
use Rattle.report_text.specs.declared.reports.Report.{Report}
use Rattle.run_paths.specs.Lifts.{Lift}
use Rattle.run_watch.specs.Runs.{Reaches, Scene, Sight, Spot, here, onward, scene_of, steps_of}
use Rattle.run_verdicts.specs.Whole.{AreCounted, IsWatchedRun}
use Rattle.run_verdicts.proofs.LastSight.{IsLastSight, last_sight}
use Rattle.run_verdicts.proofs.Pushed.{nth_before, last_item, one_longer}

counted_more : (before : List Sight) (s : Sight) → AreCounted before → s.told.index ≡ length before
    → AreCounted (before ++ s ∷ [])
counted_more before s counted index i t at =
    elim (cases_lt i (length before)) [
      | inl former ↦ counted i t (sym (nth_before before s i former) ∙ at)
      | inr past ↦
          let (last, same) = last_item before s t i past at in
          ap (λ (u : Sight). u.told.index) (sym same) ∙ index ∙ sym last
    ]

record IsCountedTo (seen : List Sight) (last : Spot) : Type 0 where
  pub counted : AreCounted seen
  pub made : steps_of last ≡ length seen

counted_to : (scene : Scene) (limit : ℕ) (start last : Spot) (seen : List Sight) → steps_of start ≡ 0
    → Reaches scene limit start seen last
    → IsCountedTo seen last
counted_to scene limit start last seen unmade (here all spot none same) = record {
  counted = subst AreCounted (sym none) (λ i s at. cc);
  made = ap steps_of same ∙ unmade ∙ sym (ap length none);
}
counted_to scene limit start last seen unmade (onward all before b spot s way g is_seen) =
    let former = counted_to scene limit start b before unmade way in
    let count = one_longer before s in
    let made = former.made in
    let next = g.makes.counted in
    let total = ap length is_seen in
    record {
      counted = subst AreCounted (sym is_seen) (counted_more before s former.counted (g.makes.told.index ∙ made));
      made = omega (arith, count, made, next, total);
    }

counted_all : (scene : Scene) (before after seen : List Sight) (last : Spot) → IsCountedTo before last → seen ≡ before ++ after
    → (after ≡ []) ⊎ IsLastSight scene last after → AreCounted seen
counted_all scene before after seen last h all (inl none) =
    subst AreCounted (sym (all ∙ ap (λ (rest : List Sight). before ++ rest) none ∙ append-nil before)) h.counted
counted_all scene before after seen last h all (inr end) =
    subst AreCounted (sym (all ∙ ap (λ (rest : List Sight). before ++ rest) end.is))
    (counted_more before end.s h.counted (end.index ∙ h.made))

pub counted_run : (image : Image) (lift : Lift) (report : Report) (limit : ℕ) (seen : List Sight)
    → IsWatchedRun image lift report limit seen → AreCounted seen
counted_run image lift report limit seen w =
    let ran = w.run.watched in
    let scene = scene_of lift.points w.offsets report w.run.code in
    counted_all scene ran.before ran.after seen ran.last
    (counted_to scene limit w.run.start ran.last ran.before w.run.begins.unmade ran.reaches) ran.all
    (last_sight scene limit ran.last ran.after w.steps w.stop ran.ends)

-- The rows of a true report hold on the words that watches see, as long as the run keeps the discipline.
use Rattle.std.proofs.Common.{◌≡◌, ℕ, ◌==◌, Bool, true, false, not, List, [], ◌∷◌, Contains, position, slice_get, Option, None, Some, refl, ap, sym, ◌∙◌, arith, subst, if◌then◌else◌}
use Rattle.std.proofs.lemmas.Bool.{eq-eqb}
use Rattle.std.proofs.lemmas.List.Elements.{All-contains}
use Rattle.elf_image.specs.declared.image.Image.{Image}
use Rattle.word_rows.specs.Rows.{dot}
use Rattle.affine_prog.specs.OpenPaths.{OpenPath}
use Rattle.affine_prog.specs.Relations.{Holds, IsReached}
use Rattle.flow_points.specs.PointLists.{FlowPoints}
use Rattle.flow_points.specs.declared.code_points.CodePoint.{CodePoint}
use Rattle.flow_points.proofs.Cited.{item_there}
use Rattle.report_text.specs.declared.points.PointState.{PointState}
use Rattle.report_text.specs.declared.points.PointState.TheVariants.{Rows, Unreached}
use Rattle.report_text.specs.declared.names.Name.{Name}
use Rattle.affine_lift.proofs.Cited.{position_none}
use Rattle.rv_step.specs.Harts.{Hart}
use Rattle.rv_step.specs.Machines.{hart_of}
use Rattle.run_paths.specs.Lifts.{Lift, node}
use Rattle.run_paths.specs.Activations.{Activation, activations_at, point_of, start_of, state_of}
use Rattle.run_paths.specs.Discipline.{IsRunTo, KeepsDiscipline}
use Rattle.run_paths.specs.Follows.{path_of}
use Rattle.run_paths.proofs.Following.{moments}
use Rattle.run_paths.proofs.Moments.{StandsAt}
use Rattle.run_paths.proofs.Obeying.{is_start, obeys, open_path}
use Rattle.run_watch.specs.Activations.{AreValues}
use Rattle.run_watch.specs.Judges.{relation_detail}
use Rattle.run_watch.specs.Moments.{Moment}
use Rattle.run_watch.specs.Runs.{Describes, IsAtPoint, Scene, Spot, is_unreached, rows_in, told_at}
use Rattle.run_verdicts.specs.Relations.{IsTrueReport}
use Rattle.run_verdicts.specs.Seen.{IsSceneOf, IsStackSeen}
use Rattle.run_verdicts.proofs.Quiet.{point_seen}
use Rattle.run_verdicts.proofs.Valued.{values_are}

-- no row fails
no_failure : (unreached : Bool) (rows : List (List ℕ)) (values : List ℕ) → unreached ≡ false
    → ((row : List ℕ) → Contains rows row → dot row values ≡ 0)
    → (if unreached then Some 0 else position (λ row. not (dot row values == 0)) rows) ≡ None
no_failure true rows values known zero = cc
no_failure false rows values known zero =
    position_none (λ (row : List ℕ). not (dot row values == 0)) rows (λ j row at passes.
    let clash : true ≡ false = sym passes ∙ ap not (eq-eqb (dot row values) 0 (zero row (item_there rows j row at))) in cc)

module _ (image : Image) (lift : Lift) (scene : Scene) (is : IsSceneOf image lift scene) where
  -- a machine of the run, where watches see it
  module _ (run : ℕ → Hart) (n : ℕ) (runs : IsRunTo image run n) (keeps : KeepsDiscipline lift run n) (spot : Spot)
      (hart : hart_of spot.machine ≡ run n) (stack : IsStackSeen lift (activations_at lift run n) spot.stack) (i : ℕ)
      (c : CodePoint)
      (at : IsAtPoint scene spot i c) where
    there : Contains lift.points.points c
    there = item_there lift.points.points i c
        (subst (λ (points : FlowPoints). slice_get points.points i ≡ Some c) is.points at.code)

    is_at : point_of lift (run n) (activations_at lift run n) ≡ Some c
    is_at =
        subst (λ (m : Hart). point_of lift m (activations_at lift run n) ≡ Some c) hart
        (point_seen image lift scene is spot (activations_at lift run n) i c at stack)

    reached_here : IsReached lift.program (node lift c.point)
    reached_here =
        by (activations_at lift run n) (path_of lift run n) (moments image lift is.lifts run n runs keeps n (omega arith)) is_at
      where
        by : (activations : List Activation) (maps : List (List ℕ))
            → StandsAt image lift (start_of lift (run 0)) (run n) activations maps
            → point_of lift (run n) activations ≡ Some c → IsReached lift.program (node lift c.point)
        by [] maps h at = absurd h.all
        by (a ∷ earlier) maps h at =
            let same : h.at ≡ c = (let both = sym h.is_at ∙ at in cc both) in record {
              start = start_of lift (run 0);
              state = state_of lift a (run n).registers (run n).memory;
              is_start = is_start image lift is.lifts (run 0);
              path = subst (λ (d : CodePoint).
                  OpenPath lift.program (start_of lift (run 0)) (node lift d.point)
                  (state_of lift a (run n).registers (run n).memory)) same
                  (open_path image lift is.lifts (start_of lift (run 0)) (run n).memory a earlier maps h.at
                  (run n).registers h.all);
            }

    holds_here : (moment : Moment) → Describes scene spot i c moment → (row : List ℕ)
        → Holds lift.program (node lift c.point) row
        → dot row moment.values ≡ 0
    holds_here moment describes row holds =
        let o = obeys image lift is.lifts run n runs keeps n (omega arith) in
        let same_point : c ≡ o.at = (let both = sym is_at ∙ o.is_at in cc both) in
        let same_last : stack.last ≡ o.last = (let both = sym stack.are ∙ o.are in cc both) in
        let values = values_are lift stack.last spot.stack.last stack.last_seen (hart_of spot.machine) moment.values
        (subst (λ (names : List Name). AreValues names spot.stack.last
        (hart_of spot.machine) moment.values) is.names describes.values) is.lifts.few in
        ap (dot row) (values ∙ ap (λ (m : Hart). state_of lift stack.last m.registers m.memory) hart
        ∙ ap (λ (a : Activation). state_of lift a (run n).registers (run n).memory) same_last)
        ∙ o.zero row (subst (λ (d : CodePoint). Holds lift.program (node lift d.point) row) same_point holds)

    pub no_relation_fails : (moment : Moment) → Describes scene spot i c moment → IsTrueReport lift scene.told
        → relation_detail moment ≡ None
    no_relation_fails moment describes true_report = by (told_at scene.told c.point) refl
      where
        by : (o : Option PointState) → told_at scene.told c.point ≡ o → relation_detail moment ≡ None
        by None told =
            no_failure moment.unreached moment.rows moment.values (describes.unreached ∙ ap is_unreached told)
            (λ row within. let none = subst (λ (rows : List (List ℕ)). Contains rows row) (describes.rows
            ∙ ap rows_in told) within in absurd (omega (arith, none.1)))
        by (Some Unreached) told = absurd (true_report.unreached c there told reached_here)
        by (Some (Rows rows)) told =
            no_failure moment.unreached moment.rows moment.values (describes.unreached ∙ ap is_unreached told)
            (λ row within. holds_here moment describes row (All-contains (Holds lift.program (node lift c.point)) rows row
            (true_report.rows c rows there told)
            (subst (λ (listed : List (List ℕ)). Contains listed row) (describes.rows ∙ ap rows_in told) within)))

-- A step more of a run that is seen.
use Rattle.std.proofs.Common.{◌≡◌, ℕ, suc, ◌<◌, ◌≤◌, List, [], ◌∷◌, ◌++◌, length, slice_get, Option, Some, inl, inr, refl, ap, sym, ◌∙◌, arith, subst}
use Rattle.std.proofs.lemmas.Bool.{cases_lt}
use Rattle.std.proofs.lemmas.Option.{slice_get_within}
use Rattle.elf_image.specs.declared.image.Image.{Image}
use Rattle.flow_points.specs.PointLists.{FlowPoints}
use Rattle.flow_points.specs.declared.code_points.CodePoint.{CodePoint}
use Rattle.rv_step.specs.Harts.{Hart}
use Rattle.rv_step.specs.Machines.{hart_of}
use Rattle.rv_step.specs.declared.machine.Machine.{Machine}
use Rattle.rv_step.specs.Runs.{Starts}
use Rattle.rv_step.specs.Steps.{Step}
use Rattle.run_paths.specs.Lifts.{Lift}
use Rattle.run_paths.specs.Activations.{Activation, activations_at, point_of, turned}
use Rattle.run_watch.specs.Activations.{Stack, TurnsBy}
use Rattle.run_watch.specs.Runs.{MakesStep, Scene, Sight, Spot}
use Rattle.run_verdicts.specs.Runs.{AreSeenSteps, IsSeenRun, IsSeenStep}
use Rattle.run_verdicts.specs.Seen.{IsSceneOf, IsStackSeen}
use Rattle.run_verdicts.proofs.Pushed.{nth_before, last_item, one_longer}
use Rattle.run_verdicts.proofs.Quiet.{point_seen}
use Rattle.run_verdicts.proofs.RunsOn.{run_before, run_behind, run_on, same_activations, same_step}
use Rattle.run_verdicts.proofs.Stacked.{stack_turned}

module _ (image : Image) (lift : Lift) (scene : Scene) (limit : ℕ) (is : IsSceneOf image lift scene) where
  -- a step more
  module _ (before : List Sight) (b : Spot) (s : Sight) (run : ℕ → Hart) (h : IsSeenRun image lift scene limit before b run)
      (i : ℕ) (c : CodePoint)
      (machine : Machine) (makes : MakesStep scene limit b i c s machine) where
    abbrev more : ℕ → Hart
    more = run_on run (length before) (hart_of machine)

    as_before : (j : ℕ) → j ≤ length before → more j ≡ run j
    as_before = run_before run (length before) (hart_of machine)

    now : more (suc (length before)) ≡ hart_of machine
    now = run_behind run (length before) (hart_of machine)

    acts_before : (j : ℕ) → j ≤ length before → activations_at lift more j ≡ activations_at lift run j
    acts_before j low = same_activations lift run more j (λ i below. as_before i (omega (arith, below, low)))

    here_seen : IsSeenStep lift scene limit (activations_at lift more (length before)) (more (length before))
        (more (suc (length before))) s
    here_seen =
        same_step lift scene limit (activations_at lift run (length before)) (activations_at lift more (length before))
        (hart_of b.machine)
        (more (length before)) (hart_of machine) (more (suc (length before))) s (acts_before (length before) (omega arith))
        (as_before (length before) (omega arith) ∙ h.ends) now
        (record { spot = b; hart = refl; stack = h.stack; i = i; c = c; machine = machine; next = refl; makes = makes })

    steps_seen : (j : ℕ) (t : Sight) → slice_get (before ++ s ∷ []) j ≡ Some t
        → IsSeenStep lift scene limit (activations_at lift more j) (more j) (more (suc j)) t
    steps_seen j t at =
        elim (cases_lt j (length before)) [
          | inl below ↦
              same_step lift scene limit (activations_at lift run j) (activations_at lift more j) (run j) (more j)
              (run (suc j)) (more (suc j)) t
              (acts_before j (omega (arith, below))) (as_before j (omega (arith, below)))
              (as_before (suc j) (omega (arith, below)))
              (h.steps.each j t (sym (nth_before before s j below) ∙ at))
          | inr past ↦
              let (last, same) = last_item before s t j past at in
              subst (λ (u : Sight). IsSeenStep lift scene limit (activations_at lift more j) (more j) (more (suc j)) u) same
              (subst (λ (l : ℕ). IsSeenStep lift scene limit (activations_at lift more l) (more l) (more (suc l)) s)
              (sym last) here_seen)
        ]

    made : (j : ℕ) → j < suc (length before) → Step (more j) (more (suc j))
    made j below =
        elim (cases_lt j (length before)) [
          | inl former ↦
              subst (λ (m : Hart). Step m (more (suc j))) (sym (as_before j (omega (arith, former))))
              (subst (λ (n : Hart). Step (run j) n) (sym (as_before (suc j) (omega (arith, former))))
              (h.steps.runs.steps j former))
          | inr past ↦
              let last : j ≡ length before = omega (arith, past, below) in
              subst (λ (l : ℕ). Step (more l) (more (suc l))) (sym last)
              (subst (λ (m : Hart). Step m (more (suc (length before)))) (sym (as_before (length before) (omega arith) ∙ h.ends))
              (subst (λ (n : Hart). Step (hart_of b.machine) n) (sym now) makes.step))
        ]

    pub steps_more : AreSeenSteps image lift scene limit (before ++ s ∷ []) (run_on run (length before) (hart_of machine))
    steps_more =
        let count = one_longer before s in
        record {
          runs = record {
            starts = subst (Starts image) (sym (as_before 0 (omega arith))) h.steps.runs.starts;
            steps = λ j below. made j (omega (arith, below, count));
          };
          each = steps_seen;
        }

    stack_more : (turned_to : Stack) → TurnsBy c.flow i scene.offsets s.told.regs s.told.next b.stack turned_to
        → IsStackSeen lift (activations_at lift more (suc (length before))) turned_to
    stack_more turned_to turns =
        let m = hart_of b.machine in
        let acts = activations_at lift run (length before) in
        let at = point_seen image lift scene is b acts i c makes.can.at h.stack in
        let points = subst (λ (points : FlowPoints). slice_get points.points i ≡ Some c) is.points makes.can.at.code in
        let next = stack_turned lift scene.offsets is.offsets i c points m s.told.regs makes.told.regs c.flow
        s.told.next acts b.stack turned_to
        turns h.stack in
        subst (λ (others : List Activation). IsStackSeen lift
        (turned (point_of lift (more (length before)) others) (more (length before)) others) turned_to)
        (sym (acts_before (length before) (omega arith)))
        (subst (λ (k : Hart). IsStackSeen lift (turned (point_of lift k acts) k acts) turned_to)
        (sym (as_before (length before) (omega arith) ∙ h.ends))
        (subst (λ (o : Option CodePoint). IsStackSeen lift (turned o m acts) turned_to) (sym at) next))

    pub next_seen : (stack : Stack) → TurnsBy c.flow i scene.offsets s.told.regs s.told.next b.stack stack
        → IsSeenRun image lift scene limit (before ++ s ∷ []) (record { machine = machine; stack = stack })
        (run_on run (length before) (hart_of machine))
    next_seen stack turns =
        let count = one_longer before s in
        record {
          steps = steps_more;
          ends = ap more count ∙ now;
          stack = subst (λ (n : ℕ). IsStackSeen lift (activations_at lift more n) stack) (sym count) (stack_more stack turns);
        }

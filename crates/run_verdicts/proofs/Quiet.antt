-- As long as watches find nothing, a run keeps the discipline.
use Rattle.std.proofs.Common.{◌≡◌, ℕ, zero, suc, ◌≤◌, List, length, take, slice_get, Some, inl, inr, ap, sym, ◌∙◌, arith, subst}
use Rattle.std.proofs.lemmas.Option.{slice_get_cases, slice_get_within}
use Rattle.elf_image.specs.declared.image.Image.{Image}
use Rattle.flow_points.specs.Walks.{point}
use Rattle.flow_points.specs.PointLists.{FlowPoints}
use Rattle.flow_points.specs.declared.code_points.CodePoint.{CodePoint}
use Rattle.flow_points.proofs.Cited.{item_there}
use Rattle.rv_step.specs.Harts.{Hart, IsHart}
use Rattle.rv_step.specs.Machines.{hart_of}
use Rattle.rv_step.proofs.HartsKept.{step_keeps_hart}
use Rattle.run_paths.specs.Lifts.{Lift}
use Rattle.run_paths.specs.Activations.{Activation, activations_at, point_of}
use Rattle.run_paths.specs.Discipline.{IsRunTo, KeepsDiscipline}
use Rattle.run_paths.proofs.Finding.{found}
use Rattle.run_paths.proofs.Lifted.{has_code}
use Rattle.run_watch.specs.Runs.{IsAtPoint, Scene, Sight, Spot}
use Rattle.run_verdicts.specs.Findings.{FindingsTell}
use Rattle.run_verdicts.specs.Runs.{AreSeenSteps, IsQuiet, IsSeenStep, KeepsAt}
use Rattle.run_verdicts.specs.Seen.{IsSceneOf, IsStackSeen}
use Rattle.run_verdicts.proofs.Telling.{findings_tell}
use Rattle.run_verdicts.proofs.Verdicts.{all_quiet, nth_taken}

-- the machines of a run
pub hart_at : (image : Image) (run : ℕ → Hart) (n : ℕ) → IsRunTo image run n → (i : ℕ) → i ≤ n → IsHart (run i)
hart_at image run n r zero low = r.starts.hart
hart_at image run n r (suc i) low =
    step_keeps_hart (run i) (run (suc i)) (hart_at image run n r i (omega (arith, low))) (r.steps i (omega (arith, low)))

module _ (image : Image) (lift : Lift) (scene : Scene) (is : IsSceneOf image lift scene) where
  -- the point where watches see a run is the run's point
  pub point_seen : (spot : Spot) (activations : List Activation) (i : ℕ) (c : CodePoint) → IsAtPoint scene spot i c
      → IsStackSeen lift activations spot.stack → point_of lift (hart_of spot.machine) activations ≡ Some c
  point_seen spot activations i c at seen =
      let there = item_there lift.points.points i c
      (subst (λ (points : FlowPoints). slice_get points.points i ≡ Some c) is.points at.code) in
      ap (point_of lift (hart_of spot.machine)) seen.are
      ∙ found lift.points (has_code image lift is.lifts) c (point seen.last.procedure (hart_of spot.machine).pc) there
      (at.place ∙ ap (λ (p : ℕ). point p (hart_of spot.machine).pc) seen.last_seen.procedure)

  -- what watches find at a step of the run
  pub told_at_step : (limit : ℕ) (activations : List Activation) (m n : Hart) (s : Sight) → IsHart m
      → IsSeenStep lift scene limit activations m n s
      → KeepsAt lift m activations (λ c last earlier. FindingsTell lift m n c last earlier s)
  told_at_step limit activations m n s hart step =
      let old = hart_of step.spot.machine in
      let last = step.stack.last in
      let earlier = step.stack.earlier in
      let tell = findings_tell image lift scene limit step.spot step.i step.c s step.machine last earlier (record {
        scene_is = is;
        hart = subst IsHart (sym step.hart) hart;
        makes = step.makes;
        last_seen = step.stack.last_seen;
        earlier_seen = step.stack.earlier_seen;
      }) in
      record {
        last = last;
        earlier = earlier;
        are = step.stack.are;
        at = step.c;
        is_at = subst (λ (h : Hart). point_of lift h activations ≡ Some step.c) step.hart
            (point_seen step.spot activations step.i step.c step.makes.can.at step.stack);
        keeps = subst (λ (h : Hart). FindingsTell lift h n step.c last earlier s) step.hart
            (subst (λ (h : Hart). FindingsTell lift old h step.c last earlier s) step.next tell);
      }

  module _ (limit : ℕ) (seen : List Sight) (run : ℕ → Hart) (h : AreSeenSteps image lift scene limit seen run) where
    pub told_at_moment : (i : ℕ) (s : Sight) → slice_get seen i ≡ Some s
        → KeepsAt lift (run i) (activations_at lift run i)
        (λ c last earlier. FindingsTell lift (run i) (run (suc i)) c last earlier s)
    told_at_moment i s at =
        told_at_step limit (activations_at lift run i) (run i) (run (suc i)) s
        (let within = slice_get_within seen i s at in hart_at image run (length seen) h.runs i (omega (arith, within)))
        (h.each i s at)

    pub keeps_discipline : (k : ℕ) → k ≤ length seen → IsQuiet (take k seen) → KeepsDiscipline lift run k
    keeps_discipline k within quiet i below =
        elim ((slice_get_cases seen i).1) [
          | inl (s, inside, at, same) ↦
              let taken = nth_taken seen k i below ∙ at in
              let told = told_at_moment i s at in
              let home = told.keeps.returns.0 (all_quiet 3 (take k seen) quiet.returns i s taken) in record {
                last = told.last;
                earlier = told.earlier;
                are = told.are;
                at = told.at;
                is_at = told.is_at;
                slots = told.keeps.stores.0 (all_quiet 2 (take k seen) quiet.stores i s taken);
                home = home.0;
                code = told.keeps.code.0 (all_quiet 4 (take k seen) quiet.code i s taken);
                frame = home.1;
              }
          | inr (past, none) ↦ absurd (omega (arith, past, below, within))
        ]

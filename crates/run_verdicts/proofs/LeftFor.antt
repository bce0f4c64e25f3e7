-- Why a run of accepted code leaves.
use Rattle.std.proofs.Common.{◌≡◌, ℕ, List, Some, sym, ◌∙◌, subst}
use Rattle.elf_image.specs.declared.image.Image.{Image}
use Rattle.flow_points.specs.declared.code_points.CodePoint.{CodePoint}
use Rattle.flow_points.proofs.Cited.{item_there}
use Rattle.rv_step.specs.declared.records.Stop.{Stop}
use Rattle.rv_step.specs.declared.records.Stop.TheVariants as stop
use Rattle.run_paths.proofs.Finding.{one_code}
use Rattle.run_paths.proofs.Lifted.{points_have_code}
use Rattle.run_watch.specs.declared.stops.RunStop.TheVariants as run
use Rattle.run_watch.specs.Runs.{Ends, IsAtPoint, Scene, Sight, Spot, budget, deep, has_word, leaves, lost, lost_at_limit, pc_of, run_stop, stops, strays}
use Rattle.run_watch.specs.Runs as run_specs
use Rattle.run_verdicts.specs.Points.{EndsAtPoint, IsAcceptedCode, IsLeftFor, altered, returned}
use Rattle.run_verdicts.proofs.AtPoints.{never_off}

never_left : (why : Stop) (address : ℕ) → run_stop why ≡ Some (run.Left address) → ⊥
never_left (stop.Exit a0) address e = cc
never_left (stop.Break at) address e = cc
never_left (stop.Ecall a7) address e = cc
never_left (stop.Outside at) address e = cc
never_left (stop.Illegal word) address e = cc
never_left stop.Memory address e = cc

module _ (image : Image) (scene : Scene) (limit : ℕ) (is : IsAcceptedCode image scene.points) (a : Spot) (h : EndsAtPoint scene a)
    (address : ℕ) where
  pub left_for : (after : List Sight) (steps : ℕ) → Ends scene limit a after steps (run.Left address)
      → IsLeftFor scene limit a address
  left_for after steps (lost_at_limit off at none count why) = cc
  left_for after steps (lost off more none count why) = absurd (never_off scene a h off)
  left_for after steps (budget i c s at spent closing seen count why) = cc
  left_for after steps (run_specs.altered i c at more differs none count why) =
      altered i c at differs (let e : address ≡ pc_of a = cc in e)
  left_for after steps (deep i c s at more same call full closing seen count why) = cc
  left_for after steps (stops i c s why can stopped how closing seen count) = absurd (never_left why address how)
  left_for after steps (strays i c why can stopped unknown none count left) =
      let same : c ≡ h.c =
      one_code scene.points (points_have_code image scene.points is.points_are) c h.c
      (item_there scene.points.points i c can.at.code) (item_there scene.points.points h.i h.c h.at.code)
      (can.at.place ∙ sym h.at.place) in
      absurd (h.stops (subst (has_word a) same can.same) why stopped unknown)
  left_for after steps (leaves i c s machine makes gone seen count why) =
      returned i c s machine makes gone (let e : address ≡ s.told.next = cc in e)

-- A run of accepted code is at a point, wherever it comes.
--
--   IsOnPoints image points a   the run is at a point, of a machine that fetches by the image's unit
use Rattle.std.proofs.Common.{◌≡◌, ℕ, List, Some, ap, sym, ◌∙◌, subst}
use Rattle.elf_image.specs.declared.image.Image.{Image}
use Rattle.flow_points.specs.Flows.{next}
use Rattle.flow_points.specs.Walks.{at_start, point, start}
use Rattle.flow_points.specs.PointLists.{FlowPoints}
use Rattle.flow_points.specs.declared.code_points.CodePoint.{CodePoint}
use Rattle.flow_points.proofs.Cited.{from_map, item_there}
use Rattle.flow_points.proofs.PointLaws.{begins as entry_there}
use Rattle.rv_step.specs.Harts.{IsHart}
use Rattle.rv_step.specs.Machines.{hart_of}
use Rattle.rv_step.specs.Steps.{Executes}
use Rattle.rv_step.proofs.HartsKept.{step_keeps_hart}
use Rattle.run_paths.proofs.Finding.{one_code}
use Rattle.run_paths.proofs.Lifted.{points_have_code}
use Rattle.run_paths.proofs.Making.{executes}
use Rattle.run_paths.proofs.Moments.{same_code, words_of_hart}
use Rattle.run_paths.proofs.Pairs.{ready_if_entered}
use Rattle.run_watch.specs.Activations.{TurnsBy}
use Rattle.run_watch.specs.declared.activation.Activation.{Activation}
use Rattle.run_watch.specs.Runs.{Begins, Goes, Reaches, Scene, Sight, Spot, here, onward}
use Rattle.run_verdicts.specs.Points.{IsAcceptedCode}
use Rattle.run_verdicts.proofs.Calls.{alone}
use Rattle.run_verdicts.proofs.Onto.{IsOnto, pc_there, steps_onto}
use Rattle.run_verdicts.proofs.WordThere.{fetches_there}

pub record IsOnPoints (image : Image) (points : FlowPoints) (a : Spot) : Type 0 where
  pub onto : IsOnto image points (hart_of a.machine) a.stack
  pub hart : IsHart (hart_of a.machine)
  pub unit : (hart_of a.machine).unit ≡ image.unit

module _ (image : Image) (scene : Scene) (limit : ℕ) (is : IsAcceptedCode image scene.points) where
  abbrev points : FlowPoints
  points = scene.points

  begins_on_point : (regs : List ℕ) (a : Spot) → Begins image regs a → IsOnPoints image points a
  begins_on_point regs a h =
      let has = points_have_code image points is.points_are in
      let d = from_map (λ (c : CodePoint). c.point) points.points (start points.entry) (entry_there points has) in
      let entry = is.points_are.entry_is in
      record {
        onto = record {
          at = d.0;
          there = d.1;
          place =
              d.2 ∙ ap start entry ∙ ap (λ (l : Activation). point l.procedure image.entry) (sym h.last)
              ∙ ap (point a.stack.last.procedure) (sym h.starts.entry);
          ready = ready_if_entered image points is.points_are is.accepted d.0 (hart_of a.machine).registers d.1
              (at_start (d.2 ∙ ap start entry));
          calls = alone a.stack h.first;
        };
        hart = h.starts.hart;
        unit = h.starts.unit;
      }

  module _ (a b : Spot) (s : Sight) (h : IsOnPoints image points a) (g : Goes scene limit a s b) where
    same_point : g.c ≡ h.onto.at
    same_point =
        one_code points (points_have_code image points is.points_are) g.c h.onto.at
        (item_there points.points g.i g.c g.makes.can.at.code) h.onto.there (g.makes.can.at.place ∙ sym h.onto.place)

    made : Executes h.onto.at.instr (next h.onto.at.point.address h.onto.at.length) (hart_of a.machine) (hart_of b.machine)
    made =
        let pc = pc_there image points is (hart_of a.machine) (hart_of b.machine) a.stack b.stack h.onto in
        executes image points is.points_are h.onto.at h.onto.there (hart_of a.machine) (hart_of b.machine) pc
        (fetches_there image points is.points_are h.onto.at h.onto.there (hart_of a.machine) pc h.unit
        (g.makes.can.same ∙ ap (λ (d : CodePoint). Some d.word) same_point)) g.makes.step

    turns : TurnsBy h.onto.at.flow g.i scene.offsets s.told.regs (hart_of b.machine).pc a.stack b.stack
    turns =
        subst (λ (next : ℕ). TurnsBy h.onto.at.flow g.i scene.offsets s.told.regs next a.stack b.stack) g.makes.told.next
        (subst (λ (d : CodePoint). TurnsBy d.flow g.i scene.offsets s.told.regs s.told.next a.stack b.stack) same_point
        g.turned.turns)

    goes_to_point : IsOnPoints image points b
    goes_to_point = record {
      onto = steps_onto image points is (hart_of a.machine) (hart_of b.machine) a.stack b.stack h.onto
          (words_of_hart (hart_of a.machine) h.hart) made g.i scene.offsets s.told.regs turns;
      hart = step_keeps_hart (hart_of a.machine) (hart_of b.machine) h.hart g.makes.step;
      unit =
          (same_code h.onto.at.instr (next h.onto.at.point.address h.onto.at.length) (hart_of a.machine) (hart_of b.machine)
          made).unit ∙ h.unit;
    }

  pub on_points : (regs : List ℕ) (origin last : Spot) (seen : List Sight) → Begins image regs origin
      → Reaches scene limit origin seen last → IsOnPoints image points last
  on_points regs origin last seen begins (here all spot none same) =
      subst (IsOnPoints image points) (sym same) (begins_on_point regs origin begins)
  on_points regs origin last seen begins (onward all before b spot s way g is_seen) =
      goes_to_point b last s (on_points regs origin b before begins way) g

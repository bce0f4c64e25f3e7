-- A step from a point of accepted code goes to a point.
--
--   IsOnto image points m a   the machine is at a point, in the procedure of the last activation; where that point ends a pair,
--                             the pair's register is ready; and the activations are calls
use Rattle.std.proofs.Common.{◌≡◌, ℕ, List, Contains, Option, ap, sym, ◌∙◌, subst}
use Rattle.elf_image.specs.declared.image.Image.{Image}
use Rattle.flow_points.specs.Flows.{next}
use Rattle.flow_points.specs.Walks.{by_flow, calls as calls_point, point, successors_of}
use Rattle.flow_points.specs.PointLists.{FlowPoints, HasCode}
use Rattle.flow_points.specs.declared.code_points.CodePoint.{CodePoint}
use Rattle.flow_points.specs.declared.code_points.Flow.{Flow}
use Rattle.flow_points.specs.declared.code_points.Flow.TheVariants.{Call, Return}
use Rattle.flow_points.specs.declared.code_points.Point.{Point}
use Rattle.flow_points.proofs.Lists.{first, second}
use Rattle.rv_step.specs.Harts.{Hart}
use Rattle.rv_step.specs.Steps.{Executes}
use Rattle.run_paths.proofs.Finding.{next_code}
use Rattle.run_paths.proofs.Leading.{leads, no_pair_behind, plain_successors, ready_after}
use Rattle.run_paths.proofs.Lifted.{points_have_code}
use Rattle.run_paths.proofs.Making.{code_of}
use Rattle.run_paths.proofs.Pairs.{IsReady, reached, ready_if_entered}
use Rattle.run_paths.proofs.States.{AreWords}
use Rattle.run_paths.proofs.Turns.{TurnsBy, ends, enters, stays}
use Rattle.run_watch.specs.Activations.{Stack, TurnsBy as TurnsStack}
use Rattle.run_watch.specs.declared.activation.Activation.{Activation}
use Rattle.run_verdicts.specs.Points.{IsAcceptedCode}
use Rattle.run_verdicts.proofs.Calls.{AreCalls, goes_back, plain_stack, same_calls, within}

pub record IsOnto (image : Image) (points : FlowPoints) (m : Hart) (a : Stack) : Type 0 where
  pub at : CodePoint
  pub there : Contains points.points at
  pub place : at.point ≡ point a.last.procedure m.pc
  pub ready : IsReady image at m.registers
  pub calls : AreCalls points.points a

module _ (image : Image) (points : FlowPoints) (is : IsAcceptedCode image points) (m n : Hart) (a b : Stack)
    (h : IsOnto image points m a) where
  abbrev c : CodePoint
  c = h.at

  abbrev after : ℕ
  after = next c.point.address c.length

  has : HasCode points
  has = points_have_code image points is.points_are

  pub pc_there : m.pc ≡ c.point.address
  pc_there = sym (ap (λ (q : Point). q.address) h.place)

  owner : c.point.proc_entry ≡ a.last.procedure
  owner = ap (λ (q : Point). q.proc_entry) h.place

  module _ (words : AreWords m.registers) (made : Executes c.instr after m n) (i : ℕ) (offsets : List (Option ℕ)) (regs : List ℕ)
      (turns : TurnsStack c.flow i offsets regs n.pc a b) where
    turns_by : (flow : Flow) → c.flow ≡ flow → TurnsStack flow i offsets regs n.pc a b
    turns_by flow is_flow = subst (λ (f : Flow). TurnsStack f i offsets regs n.pc a b) is_flow turns

    by_turn : TurnsBy c.point.proc_entry c.flow after m n → IsOnto image points n b
    by_turn (stays plain goes) =
        let turned = plain_stack c.flow i offsets regs n.pc a b plain turns in
        let onward = plain_successors c.point.proc_entry c.flow (point c.point.proc_entry n.pc) plain goes in
        let d = next_code points has c (point c.point.proc_entry n.pc) h.there onward in
        record {
          at = d.0;
          there = d.1;
          place = d.2 ∙ ap (λ (p : ℕ). point p n.pc) (owner ∙ ap (λ (l : Activation). l.procedure) (sym turned.1));
          ready = ready_after image points is.points_are is.accepted c d.0 m n after pc_there words h.there d.1
              (subst (Contains (successors_of c.point.proc_entry c.flow)) (sym d.2) onward) made;
          calls = same_calls points.points a b turned.0 turned.1 h.calls;
        }
    by_turn (enters target flow goes now memory) =
        let turned = turns_by (Call target after) flow in
        let onward = subst (λ (f : Flow). Contains (successors_of c.point.proc_entry f) (point target target)) (sym flow)
        (first (point target target) (point c.point.proc_entry after)) in
        let d = next_code points has c (point target target) h.there onward in
        let callee : target ≡ b.last.procedure = ap (λ (l : Activation). l.procedure) (sym turned.1) in
        record {
          at = d.0;
          there = d.1;
          place = d.2 ∙ ap (λ (p : ℕ). point p target) callee ∙ ap (point b.last.procedure) (sym goes);
          ready = ready_if_entered image points is.points_are is.accepted d.0 n.registers d.1
              (by_flow c.point c.flow (reached image points is.points_are is.accepted c h.there)
              (code_of image points is.points_are c h.there).flow (calls_point target after flow d.2));
          calls = within b a c after turned.0 h.there owner (flow ∙ ap (λ (p : ℕ). Call p after) callee)
              (ap (λ (l : Activation). l.return_to) turned.1) h.calls;
        }
    by_turn (ends flow goes now memory) =
        let turned = turns_by Return flow in
        let back = goes_back points.points n.pc a b turned.0 turned.1 h.calls in
        let from = back.from in
        let to = point from.point.proc_entry n.pc in
        let onward = subst (λ (f : Flow). Contains (successors_of from.point.proc_entry f) to) (sym back.flow)
        (second (point back.target back.target) to) in
        let d = next_code points has from to back.there onward in
        record {
          at = d.0;
          there = d.1;
          place = d.2 ∙ ap (λ (p : ℕ). point p n.pc) back.owner;
          ready = no_pair_behind image points is.points_are is.accepted from d.0 back.target n.pc n.registers back.there d.1
              back.flow (subst (Contains (successors_of from.point.proc_entry from.flow)) (sym d.2) onward);
          calls = back.calls;
        }

    pub steps_onto : IsOnto image points n b
    steps_onto = by_turn (leads image points is.points_are c h.there m n pc_there words h.ready made)

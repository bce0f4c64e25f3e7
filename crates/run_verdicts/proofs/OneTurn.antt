-- A step of a run is one.
use Rattle.std.proofs.Common.{◌≡◌, ℕ, ◌+◌, List, slice_get, Option, Some, ap, sym, ◌∙◌, subst}
use Rattle.flow_points.specs.PointLists.{HasCode}
use Rattle.flow_points.specs.Walks.{point}
use Rattle.flow_points.specs.declared.code_points.CodePoint.{CodePoint}
use Rattle.flow_points.specs.declared.code_points.Flow.{Flow}
use Rattle.flow_points.specs.declared.code_points.Flow.TheVariants.{Next, Jump, Branch, Call, Return, Halt}
use Rattle.flow_points.proofs.Cited.{item_there}
use Rattle.frame_offsets.proofs.Walking.{same_place}
use Rattle.rv_step.specs.Harts.{IsSame}
use Rattle.rv_step.specs.Machines.{hart_of}
use Rattle.rv_step.specs.declared.machine.Machine.{Machine}
use Rattle.rv_step.specs.declared.records.StepRec.{StepRec}
use Rattle.rv_step.proofs.HartsKept.{step_keeps_hart}
use Rattle.run_watch.specs.Activations.{Stack, TurnsBy}
use Rattle.run_watch.specs.Moments.{Moment}
use Rattle.run_watch.specs.Runs.{Describes, Goes, IsAtPoint, MakesStep, Scene, Sight, Spot, pc_of, sight_of}
use Rattle.run_watch.specs.declared.activation.Activation.{Activation}
use Rattle.run_verdicts.proofs.Alike.{alike_step}
use Rattle.run_verdicts.proofs.OneMoment.{AreAlike, one_moment}
use Rattle.run_verdicts.proofs.OneRecord.{one_record}
use Rattle.run_verdicts.proofs.Stacked.{same_end}

pub same_stack : (x y : Stack) → x.earlier ≡ y.earlier → x.last ≡ y.last → x ≡ y
same_stack x y earlier last =
    ap (λ (as_ : List Activation). record { earlier = as_; last = x.last }) earlier
    ∙ ap (λ (l : Activation). record { earlier = y.earlier; last = l }) last

one_turn : (flow : Flow) (i : ℕ) (offsets : List (Option ℕ)) (regs : List ℕ) (next : ℕ) (a x y : Stack)
    → TurnsBy flow i offsets regs next a x → TurnsBy flow i offsets regs next a y → x ≡ y
one_turn (Call target after) i offsets regs next a x y h k = same_stack x y (h.0 ∙ sym k.0) (h.1 ∙ sym k.1)
one_turn Return i offsets regs next a x y h k =
    let ends = same_end x.earlier y.earlier x.last y.last (sym h.1 ∙ k.1) in
    same_stack x y ends.before ends.last
one_turn (Next n) i offsets regs next a x y h k = same_stack x y (h.0 ∙ sym k.0) (h.1 ∙ sym k.1)
one_turn (Jump t) i offsets regs next a x y h k = same_stack x y (h.0 ∙ sym k.0) (h.1 ∙ sym k.1)
one_turn (Branch n t) i offsets regs next a x y h k = same_stack x y (h.0 ∙ sym k.0) (h.1 ∙ sym k.1)
one_turn Halt i offsets regs next a x y h k = same_stack x y (h.0 ∙ sym k.0) (h.1 ∙ sym k.1)

pub same_sight : (s t : Sight) → s.moment ≡ t.moment → s.told ≡ t.told → s ≡ t
same_sight s t moment told =
    ap (λ (m : Moment). sight_of m s.told) moment ∙ ap (λ (r : StepRec). sight_of t.moment r) told

module _ (scene : Scene) (code : HasCode scene.points) (limit : ℕ) (a b : Spot) (are : AreAlike a b) where
  pub same_place_there : point a.stack.last.procedure (pc_of a) ≡ point b.stack.last.procedure (pc_of b)
  same_place_there =
      ap (point a.stack.last.procedure) are.machines.pc
      ∙ ap (λ (st : Stack). point st.last.procedure (pc_of b)) are.stacks

  pub one_point : (i j : ℕ) (c d : CodePoint) → IsAtPoint scene a i c → IsAtPoint scene b j d → (i ≡ j) × (c ≡ d)
  one_point i j c d at also =
      let place = at.place ∙ same_place_there ∙ sym also.place in
      let index = same_place scene.points i j c d code at.code also.code place in
      let both : Some c ≡ Some d = sym at.code ∙ ap (slice_get scene.points.points) index ∙ also.code in
      (index, cc)

  pub moment_there : (i j : ℕ) (c d : CodePoint) (m n : Moment) → IsAtPoint scene a i c → IsAtPoint scene b j d
      → Describes scene a i c m → Describes scene b j d n → m ≡ n
  moment_there i j c d m n at also h k =
      let one = one_point i j c d at also in
      one_moment scene code a b i c m n are (item_there scene.points.points i c at.code) h
      (subst (λ (l : ℕ). Describes scene b l c n) (sym one.0) (subst (λ (e : CodePoint). Describes scene b j e n) (sym one.1) k))

  pub one_made : (i j : ℕ) (c d : CodePoint) (s t : Sight) (m n : Machine) → MakesStep scene limit a i c s m
      → MakesStep scene limit b j d t n → (s ≡ t) × IsSame (hart_of m) (hart_of n)
  one_made i j c d s t m n h k =
      let after = alike_step (hart_of a.machine) (hart_of b.machine) are.machines (hart_of m) (hart_of n) are.hart.pc h.goes_on
      h.step k.step in (
        same_sight s t (moment_there i j c d s.moment t.moment h.can.at k.can.at h.moment k.moment)
            (one_record a.machine b.machine are.machines are.hart.pc are.as_many m n s.told t.told after h.told k.told),
        after,
      )

  pub one_way : (s t : Sight) (p q : Spot) → Goes scene limit a s p → Goes scene limit b t q → (s ≡ t) × AreAlike p q
  one_way s t p q g h =
      let made = one_made g.i h.i g.c h.c s t p.machine q.machine g.makes h.makes in
      let one = one_point g.i h.i g.c h.c g.makes.can.at h.makes.can.at in
      let flow = g.c.flow in
      let turns : TurnsBy flow g.i scene.offsets s.told.regs s.told.next a.stack q.stack =
      subst (λ (st : Stack). TurnsBy flow g.i scene.offsets s.told.regs s.told.next st q.stack) (sym are.stacks)
      (subst (λ (u : Sight). TurnsBy flow g.i scene.offsets u.told.regs u.told.next b.stack q.stack) (sym made.0)
      (subst (λ (l : ℕ). TurnsBy flow l scene.offsets t.told.regs t.told.next b.stack q.stack) (sym one.0)
      (subst (λ (e : CodePoint). TurnsBy e.flow h.i scene.offsets t.told.regs t.told.next b.stack q.stack) (sym one.1)
      h.turned.turns))) in (
        made.0,
        record {
          hart = step_keeps_hart (hart_of a.machine) (hart_of p.machine) are.hart g.makes.step;
          other_hart = step_keeps_hart (hart_of b.machine) (hart_of q.machine) are.other_hart h.makes.step;
          machines = made.1;
          as_many = g.makes.counted ∙ ap (λ (n : ℕ). n + 1) are.as_many ∙ sym h.makes.counted;
          stacks = one_turn flow g.i scene.offsets s.told.regs s.told.next a.stack p.stack q.stack g.turned.turns turns;
        },
      )

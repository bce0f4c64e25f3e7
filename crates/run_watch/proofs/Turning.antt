-- A turn of a run: what the checks, the stops and the step of the machine make of it.
use Rattle.std.proofs.Common.{◌≡◌, ◌≢◌, ◌⊎◌, ℕ, ◌+◌, ◌<◌, ◌≤◌, List, [], ◌∷◌, length, ◌-◌, ◌^◌, min, Bool, true, false, MatchBool, IfOk, Contains, slice_get, Option, None, Some, Result, Ok, Err, IsSomeAnd, sym, subst, ap, ◌∙◌, refl, inl, inr, arith}
use Rattle.std.proofs.lemmas.Bool.{cases_eq}
use Rattle.std.proofs.lemmas.Option.{slice_get_within}
use Rattle.flow_points.specs.Walks.{point}
use Rattle.flow_points.specs.PointLists.{places_of}
use Rattle.flow_points.specs.declared.code_points.CodePoint.{CodePoint}
use Rattle.flow_points.specs.declared.code_points.Flow.{Flow}
use Rattle.rv_step.specs.Machines.{made_of}
use Rattle.rv_step.specs.Records.{IsClosing}
use Rattle.rv_step.specs.declared.machine.Machine.{Machine}
use Rattle.rv_step.specs.declared.records.StepRec.{StepRec}
use Rattle.run_watch.specs.Activations.{Stack, Turned, Leaves}
use Rattle.run_watch.specs.Moments.{Moment}
use Rattle.run_watch.specs.Runs.{Scene, Spot, Sight, IsAtPoint, IsOffPoints, Describes, IsClosingSight, CanStep, has_word, IsCall, Goes, Ends, lost, lost_at_limit, budget, altered, deep, leaves, Turn, on, off, sight_of, pc_of, steps_of}
use Rattle.run_watch.specs.Runs as run_specs
use Rattle.run_watch.specs.Turns.{Stepped, made, stops, strays, IsMade, Tried}
use Rattle.run_watch.specs.declared.outcomes.Outcome.{Outcome}
use Rattle.run_watch.specs.declared.stops.RunStop.{RunStop}
use Rattle.run_watch.specs.declared.stops.RunStop.TheVariants as run

pub not_err : {A E : Type 0} (r : Result A E) (a : A) (e : E) → r ≡ Ok a → r ≡ Err e → ⊥
not_err r a e f g = cc

some_there : {X : Type 0} (xs : List X) (i : ℕ) (P : X → Type 0) (o : Option X) → slice_get xs i ≡ o → IsSomeAnd o P
    → i < length xs
some_there xs i P None e k = absurd k
some_there xs i P (Some x) e k = slice_get_within xs i x e

pub some_within : {X : Type 0} (xs : List X) (i : ℕ) (P : X → Type 0) → IsSomeAnd (slice_get xs i) P → i < length xs
some_within xs i P h = some_there xs i P (slice_get xs i) refl h

-- where a run is at a point: its code, the closing record there, and the moment
pub record IsHere (scene : Scene) (a : Spot) (i : ℕ) (c : CodePoint) (here : StepRec) (moment : Moment) : Type 0 where
  pub at : IsAtPoint scene a i c
  pub closing : IsClosing a.machine here
  pub moment_is : Describes scene a i c moment

pub at_point : (scene : Scene) (a : Spot) (i : ℕ) (c : CodePoint) (here : StepRec) (procedure : ℕ) → IsClosing a.machine here
    → procedure ≡ a.stack.last.procedure → slice_get scene.points.points i ≡ Some c
    → IsSomeAnd (slice_get scene.points.points i) (λ d. d.point ≡ point procedure here.pc) → IsAtPoint scene a i c
at_point scene a i c here procedure closing last code found = record {
  code = code;
  place = subst (λ o. IsSomeAnd o (λ d. d.point ≡ point procedure here.pc)) code found
      ∙ ap (λ p. point p here.pc) last ∙ ap (λ pc. point a.stack.last.procedure pc) closing.pc;
}

pub off_points : (scene : Scene) (limit : ℕ) (a : Spot) (here : StepRec) (procedure : ℕ) (stop : RunStop) → IsClosing a.machine here
    → procedure ≡ a.stack.last.procedure → (Contains (places_of scene.points.points) (point procedure here.pc) → ⊥)
    → (here.index ≡ limit → stop ≡ run.Budget) → (here.index ≢ limit → stop ≡ run.Left here.pc) → Ends scene limit a [] (steps_of a) stop
off_points scene limit a here procedure stop closing last none at_limit below =
    by (cases_eq (steps_of a) limit)
  where
    off : IsOffPoints scene a
    off = subst (λ pc. Contains (places_of scene.points.points) (point a.stack.last.procedure pc) → ⊥) closing.pc
        (subst (λ p. Contains (places_of scene.points.points) (point p here.pc) → ⊥) last none)

    by : (steps_of a ≡ limit) ⊎ (steps_of a ≢ limit) → Ends scene limit a [] (steps_of a) stop
    by (inl e) = lost_at_limit off e refl refl (at_limit (closing.index ∙ e))
    by (inr more) = lost off more refl refl (below (λ e. more (sym closing.index ∙ e)) ∙ ap run.Left closing.pc)

closing_sight : (scene : Scene) (a : Spot) (i : ℕ) (c : CodePoint) (here : StepRec) (moment : Moment)
    → IsHere scene a i c here moment → IsClosingSight scene a i c (sight_of moment here)
closing_sight scene a i c here moment is = record { moment = is.moment_is; closing = is.closing }

pub budget_at : (scene : Scene) (limit : ℕ) (a : Spot) (i : ℕ) (c : CodePoint) (here : StepRec) (moment : Moment)
    → IsHere scene a i c here moment → here.index ≡ limit → Ends scene limit a (sight_of moment here ∷ []) (steps_of a) run.Budget
budget_at scene limit a i c here moment is at_limit =
    budget i c (sight_of moment here) is.at (sym is.closing.index ∙ at_limit) (closing_sight scene a i c here moment is) refl refl refl

pub altered_at : (scene : Scene) (limit : ℕ) (a : Spot) (i : ℕ) (c : CodePoint) (here : StepRec) (moment : Moment)
    → IsHere scene a i c here moment → here.index ≢ limit → (has_word a c → ⊥) → Ends scene limit a [] (steps_of a) (run.Left here.pc)
altered_at scene limit a i c here moment is more differs =
    altered i c is.at (λ e. more (is.closing.index ∙ e)) differs refl refl (ap run.Left is.closing.pc)

pub deep_at : (scene : Scene) (limit : ℕ) (a : Spot) (i : ℕ) (c : CodePoint) (here : StepRec) (moment : Moment)
    (count : ℕ) → count ≡ length a.stack.earlier → IsHere scene a i c here moment → here.index ≢ limit → has_word a c
    → IsCall c.flow × (count + 1 ≡ 65536) → Ends scene limit a (sight_of moment here ∷ []) (steps_of a) (run.Depth 65536)
deep_at scene limit a i c here moment count counted is more same full =
    deep i c (sight_of moment here) is.at (λ e. more (is.closing.index ∙ e)) same full.0 (ap (λ n. n + 1) (sym counted) ∙ full.1) (closing_sight scene a i c here moment is)
    refl refl refl

pub can_step : (scene : Scene) (limit : ℕ) (a : Spot) (i : ℕ) (c : CodePoint) (here : StepRec) (moment : Moment)
    (count : ℕ) → count ≡ length a.stack.earlier → IsHere scene a i c here moment → here.index ≢ limit → has_word a c
    → (IsCall c.flow × (count + 1 ≡ 65536) → ⊥) → CanStep scene limit a i c
can_step scene limit a i c here moment count counted is more same room =
    record { at = is.at; more = λ e. more (is.closing.index ∙ e); same = same; room = λ call full. room (call, ap (λ n. n + 1) counted ∙ full) }

pub tried_by : (scene : Scene) (limit : ℕ) (a : Spot) (n : Machine) (i : ℕ) (c : CodePoint) (here : StepRec) (moment : Moment)
    (seen : List Sight) (outcome : Outcome) → limit ≤ 1000000000 → steps_of a ≤ limit → IsHere scene a i c here moment
    → CanStep scene limit a i c → Stepped a.machine n moment here i c.flow seen outcome → Tried scene limit a n seen outcome
tried_by scene limit a n i c here moment seen outcome small within is can (made told goes step recorded counted one out) =
    subst (λ o. Tried scene limit a n seen o) (sym out) (record {
      s = sight_of moment told;
      c = c;
      makes = record {
        can = can;
        goes_on = goes;
        step = step;
        counted = counted ∙ (let e : min (made_of a.machine + 1) (2 ^ 64 - 1) ≡ made_of a.machine + 1 = omega (arith, small, within) in e);
        told = recorded;
        moment = is.moment_is;
      };
      one = one;
      tells = refl;
      flows = refl;
    })
tried_by scene limit a n i c here moment seen outcome small within is can (stops why stop stopped how same one out) =
    subst (λ o. Tried scene limit a n seen o) (sym out)
    (run_specs.stops i c (sight_of moment here) why can stopped how (closing_sight scene a i c here moment is) one same)
tried_by scene limit a n i c here moment seen outcome small within is can (strays why stopped how same none out) =
    subst (λ o. Tried scene limit a n seen o) (sym out)
    (run_specs.strays i c why can stopped how none same (ap run.Left is.closing.pc))

pub if_ok_then : {A E : Type 0} (P Q : A → Type 0) (r : Result A E) → ((a : A) → P a → Q a) → IfOk r P → IfOk r Q
if_ok_then P Q (Ok a) f h = f a h
if_ok_then P Q (Err e) f h = tt

-- the step was made, and the activations change
pub turned_on : (scene : Scene) (limit : ℕ) (a : Spot) (n : Machine) (stack : Stack) (i : ℕ) (by : Flow) (told : StepRec) (seen : List Sight)
    → IsMade scene limit a n i by told seen → Turned by i scene.offsets told.regs told.next a.stack stack
    → Turn scene limit a (record { machine = n; stack = stack }) seen None
turned_on scene limit a n stack i by told seen is turned =
    on None is.s refl (record {
      i = i;
      c = is.c;
      makes = is.makes;
      turned = subst (λ (t : StepRec). Turned is.c.flow i scene.offsets t.regs t.next a.stack stack) (sym is.tells)
          (subst (λ f. Turned f i scene.offsets told.regs told.next a.stack stack) (sym is.flows) turned);
    }) is.one

-- the step was made, and the run left
pub turned_off : (scene : Scene) (limit : ℕ) (a : Spot) (n : Machine) (stack : Stack) (i : ℕ) (by : Flow) (told : StepRec) (seen : List Sight)
    → IsMade scene limit a n i by told seen → Leaves by told.next a.stack
    → Turn scene limit a (record { machine = n; stack = stack }) seen (Some (run.Left told.next))
turned_off scene limit a n stack i by told seen is left =
    off (Some (run.Left told.next)) (run.Left told.next) refl
    (leaves i is.c is.s n is.makes
    (subst (λ (t : StepRec). Leaves is.c.flow t.next a.stack) (sym is.tells)
    (subst (λ f. Leaves f told.next a.stack) (sym is.flows) left))
    is.one refl (ap (λ (t : StepRec). run.Left t.next) (sym is.tells)))

pub on_true : (b : Bool) (P Q : Type 0) → b ≡ true → MatchBool b P Q → P
on_true true P Q e h = h
on_true false P Q e h = cc

pub on_false : (b : Bool) (P Q : Type 0) → b ≡ false → MatchBool b P Q → Q
on_false true P Q e h = cc
on_false false P Q e h = h

-- A run goes on, turn after turn.
--
--   IsOn R scene limit a b old now   the run goes from a to b, and each watch, as it is now, has seen what is seen of that
use Rattle.std.proofs.Common.{◌≡◌, ◌≢◌, ℕ, ◌+◌, ◌-◌, ◌<◌, ◌≤◌, arith, Option, List, [], ◌∷◌, ◌++◌, length, None, Some, refl, sym, subst, ◌∙◌, ap}
use Rattle.std.specs.List.{AllZip}
use Rattle.run_watch.specs.Runs.{Scene, Spot, Sight, Reaches, here, onward, Turn, on, off, IsWatched, Ends, steps_of}
use Rattle.run_watch.specs.Runs.{IsCall}
use Rattle.run_watch.specs.Activations.{Stack, TurnsBy}
use Rattle.run_watch.specs.Runs.{verdict}
use Rattle.run_watch.specs.Quiet.{Quietly}
use Rattle.run_watch.specs.declared.context.Found.{Found}
use Rattle.rv_step.specs.declared.machine.Machine.{Machine}
use Rattle.run_watch.proofs.Silent.{reaches_then}
use Rattle.run_watch.specs.declared.stops.RunStop.{RunStop}
use Rattle.flow_points.specs.declared.code_points.Flow.{Flow}
use Rattle.flow_points.specs.declared.code_points.Flow.TheVariants as flow
use Rattle.std.proofs.lemmas.List.{length-append}
use Rattle.run_watch.proofs.Seeing.{zip_same, zip_then}

pub record IsOn {B : Type 0} (R : List Sight → B → B → Type 0) (scene : Scene) (limit : ℕ) (a b : Spot) (old now : List B) : Type 0 where
  pub seen : List Sight
  pub reaches : Reaches scene limit a seen b
  pub shown : AllZip (R seen) old now
  pub few : length b.stack.earlier + 1 ≤ 65536
  pub within : steps_of b ≤ limit

abbrev some_or : Option RunStop → RunStop → RunStop
some_or None other = other
some_or (Some why) other = why

pub begins_on : {B : Type 0} (R : List Sight → B → B → Type 0) (scene : Scene) (limit : ℕ) (a : Spot) (watches : List B)
    → ((w : B) → R [] w w) → length a.stack.earlier + 1 ≤ 65536 → steps_of a ≤ limit → IsOn R scene limit a a watches watches
begins_on R scene limit a watches same few within =
    record { seen = []; reaches = here [] a refl refl; shown = zip_same (R []) watches same; few = few; within = within }

some_none : (why : RunStop) → Some why ≡ None → ⊥
some_none why e = cc

some_one : (a b : RunStop) → Some a ≡ Some b → a ≡ b
some_one a b e = ap (λ (o : Option RunStop). some_or o a) e

kept : (a b : Stack) → b.earlier ≡ a.earlier → length a.earlier + 1 ≤ 65536 → length b.earlier + 1 ≤ 65536
kept a b e few = let long : length b.earlier ≡ length a.earlier = ap length e in omega (arith, long, few)

-- how many activations there are after a turn
few_by : (f : Flow) (i : ℕ) (offsets : List (Option ℕ)) (regs : List ℕ) (next : ℕ) (a b : Stack)
    → TurnsBy f i offsets regs next a b → length a.earlier + 1 ≤ 65536 → (IsCall f → length a.earlier + 1 ≢ 65536)
    → length b.earlier + 1 ≤ 65536
few_by (flow.Call target after) i offsets regs next a b t few room =
    let long : length b.earlier ≡ length a.earlier + 1 = ap length t.0 ∙ length-append a.earlier (a.last ∷ []) in
    let free : length a.earlier + 1 ≢ 65536 = room tt in
    omega (arith, long, few, free)
few_by flow.Return i offsets regs next a b t few room =
    let long : length a.earlier ≡ length b.earlier + 1 = ap length t.1 ∙ length-append b.earlier (b.last ∷ []) in
    omega (arith, long, few)
few_by (flow.Next n) i offsets regs next a b t few room = kept a b t.0 few
few_by (flow.Jump n) i offsets regs next a b t few room = kept a b t.0 few
few_by (flow.Branch n target) i offsets regs next a b t few room = kept a b t.0 few
few_by flow.Halt i offsets regs next a b t few room = kept a b t.0 few

-- steps of which no watch sees the records
pub on_quietly : {B : Type 0} (R : List Sight → B → B → Type 0) (scene : Scene) (limit : ℕ) (a b : Spot) (machine : Machine) (old now : List B)
    → ((xs ys : List Sight) (x y z : B) → R xs x y → R ys y z → R (xs ++ ys) x z)
    → ((seen : List Sight) (w : B) → ((kind : ℕ) (state : Option Found) → verdict kind state seen ≡ state) → R seen w w)
    → IsOn R scene limit a b old now → Quietly scene limit b (record { machine = machine; stack = b.stack })
    → IsOn R scene limit a (record { machine = machine; stack = b.stack }) old now
on_quietly R scene limit a b machine old now join unseen is calm = record {
  seen = is.seen ++ calm.seen;
  reaches = reaches_then scene limit a b (record { machine = machine; stack = b.stack }) is.seen calm.seen is.reaches calm.reaches;
  shown = zip_then (R is.seen) (R calm.seen) (R (is.seen ++ calm.seen)) old now now (join is.seen calm.seen) is.shown
      (zip_same (R calm.seen) now (λ w. unseen calm.seen w calm.silent));
  few = is.few;
  within = calm.within;
}

-- fewer steps are left
pub fewer : (limit before between after : ℕ) → before ≤ between → after ≡ between + 1 → between < limit → limit - after < limit - before
fewer limit before between after more counted within = omega (arith, more, counted, within)

-- a turn that goes on
pub turned : {B : Type 0} (R : List Sight → B → B → Type 0) (scene : Scene) (limit : ℕ) (a b c : Spot) (seen : List Sight)
    (stop : Option RunStop) (old now then : List B)
    → ((xs ys : List Sight) (x y z : B) → R xs x y → R ys y z → R (xs ++ ys) x z)
    → stop ≡ None → IsOn R scene limit a b old now → Turn scene limit b c seen stop → AllZip (R seen) now then
    → IsOn R scene limit a c old then × (steps_of c ≡ steps_of b + 1) × (steps_of b < limit)
turned R scene limit a b c seen stop old now then join none is (on o s e goes one) shown =
    let more : steps_of b ≢ limit = goes.makes.can.more in
    let counted : steps_of c ≡ steps_of b + 1 = goes.makes.counted in
    let within : steps_of b ≤ limit = is.within in (
      record {
        seen = is.seen ++ seen;
        reaches = onward (is.seen ++ seen) is.seen b c s is.reaches goes (ap (λ xs. is.seen ++ xs) one);
        shown = zip_then (R is.seen) (R seen) (R (is.seen ++ seen)) old now then (join is.seen seen) is.shown shown;
        few = few_by goes.c.flow goes.i scene.offsets s.told.regs s.told.next b.stack c.stack goes.turned.turns is.few goes.makes.can.room;
        within = omega (arith, counted, within, more);
      },
      counted,
      omega (arith, within, more),
    )
turned R scene limit a b c seen stop old now then join none is (off o why e ends) shown = absurd (some_none why (sym e ∙ none))

-- a turn that stops
pub stopped : {B : Type 0} (R : List Sight → B → B → Type 0) (scene : Scene) (limit : ℕ) (a b c : Spot) (seen : List Sight)
    (stop : Option RunStop) (why : RunStop) (old now then : List B)
    → ((xs ys : List Sight) (x y z : B) → R xs x y → R ys y z → R (xs ++ ys) x z)
    → stop ≡ Some why → (is : IsOn R scene limit a b old now) → Turn scene limit b c seen stop → AllZip (R seen) now then
    → IsWatched scene limit a (is.seen ++ seen) (steps_of c) why × AllZip (R (is.seen ++ seen)) old then
stopped R scene limit a b c seen stop why old now then join some is (on o s e goes one) shown = absurd (some_none why (sym some ∙ e))
stopped R scene limit a b c seen stop why old now then join some is (off o other e ends) shown = (
  record {
    before = is.seen;
    last = b;
    after = seen;
    reaches = is.reaches;
    ends = subst (λ w. Ends scene limit b seen (steps_of c) w) (some_one other why (sym e ∙ some)) ends;
    all = refl;
  },
  zip_then (R is.seen) (R seen) (R (is.seen ++ seen)) old now then (join is.seen seen) is.shown shown,
)

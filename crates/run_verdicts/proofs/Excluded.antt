-- Ways on which a run ends or goes on exclude one another.
--
--   Apart scene limit a b   what can't hold both of a run at a and of another at b
use Rattle.std.proofs.Common.{◌≡◌, ◌≢◌, ℕ, ◌+◌, length, Contains, None, Some, option_map, inl, inr, ap, sym, ◌∙◌, subst}
use Rattle.elf_image.specs.declared.fetched.Fetched.{Fetched}
use Rattle.flow_points.specs.PointLists.{HasCode, places_of}
use Rattle.flow_points.specs.declared.code_points.CodePoint.{CodePoint}
use Rattle.flow_points.specs.declared.code_points.Flow.{Flow}
use Rattle.flow_points.specs.declared.code_points.Flow.TheVariants.{Return}
use Rattle.flow_points.proofs.Cited.{Contains-map, item_there}
use Rattle.rv_step.specs.Machines.{hart_of}
use Rattle.rv_step.specs.Records.{StopsWith}
use Rattle.rv_step.specs.declared.machine.Machine.{Machine}
use Rattle.rv_step.specs.declared.records.Stop.{Stop}
use Rattle.run_watch.specs.Activations.{Leaves, Stack, TurnsBy}
use Rattle.run_watch.specs.Runs.{CanStep, Goes, IsAtPoint, IsCall, IsOffPoints, MakesStep, Scene, Sight, Spot, has_word, most_activations, run_stop, steps_of}
use Rattle.run_watch.specs.declared.stops.RunStop.{RunStop}
use Rattle.run_verdicts.proofs.Alike.{same_fetched}
use Rattle.run_verdicts.proofs.OneMoment.{AreAlike}
use Rattle.run_verdicts.proofs.OneStop.{one_stop, stops_too}
use Rattle.run_verdicts.proofs.OneTurn.{one_made, one_point, same_place_there}
use Rattle.run_verdicts.proofs.Stacked.{never_empty}

pub flip : (a b : Spot) → AreAlike a b → AreAlike b a
flip a b are = record {
  hart = are.other_hart;
  other_hart = are.hart;
  machines = record {
    pc = sym are.machines.pc;
    registers = sym are.machines.registers;
    memory = λ address small. sym (are.machines.memory address small);
    code = sym are.machines.code;
    unit = sym are.machines.unit;
  };
  as_many = sym are.as_many;
  stacks = sym are.stacks;
}

stops_alike : (a b : Spot) → AreAlike a b → (why : Stop) → StopsWith (hart_of b.machine) why → StopsWith (hart_of a.machine) why
stops_alike a b are = stops_too (hart_of a.machine) (hart_of b.machine) are.machines are.hart.pc

pub one_reason : (a b : Spot) → AreAlike a b → (why other : Stop) → StopsWith (hart_of a.machine) why
    → StopsWith (hart_of b.machine) other → why ≡ other
one_reason a b are why other h k = one_stop (hart_of a.machine) why other h (stops_alike a b are other k)

no_stop : (a b : Spot) → AreAlike a b → (why other : Stop) (stop : RunStop) → StopsWith (hart_of a.machine) why
    → StopsWith (hart_of b.machine) other → run_stop why ≡ Some stop → run_stop other ≡ None → ⊥
no_stop a b are why other stop h k is none =
    let clash : Some stop ≡ None = sym is ∙ ap run_stop (one_reason a b are why other h k) ∙ none in cc

pub record Apart (scene : Scene) (limit : ℕ) (a b : Spot) : Type 0 where
  pub off : IsOffPoints scene a → (i : ℕ) (c : CodePoint) → IsAtPoint scene b i c → ⊥
  pub spent : steps_of a ≡ limit → steps_of b ≢ limit → ⊥
  pub word : (i j : ℕ) (c d : CodePoint) → IsAtPoint scene a i c → IsAtPoint scene b j d → (has_word a c → ⊥) → has_word b d → ⊥
  pub room : (i j : ℕ) (c d : CodePoint) → IsAtPoint scene a i c → IsCall c.flow
      → length a.stack.earlier + 1 ≡ most_activations → CanStep scene limit b j d → ⊥
  pub stays : (why : Stop) → StopsWith (hart_of a.machine) why → ((w : Stop) → StopsWith (hart_of b.machine) w → ⊥) → ⊥
  pub astray : (why other : Stop) (stop : RunStop) → StopsWith (hart_of a.machine) why
      → StopsWith (hart_of b.machine) other → run_stop why ≡ Some stop → run_stop other ≡ None → ⊥

module _ (scene : Scene) (code : HasCode scene.points) (limit : ℕ) (a b : Spot) (are : AreAlike a b) where
  off_on : IsOffPoints scene a → (i : ℕ) (c : CodePoint) → IsAtPoint scene b i c → ⊥
  off_on out i c at =
      let points = scene.points.points in
      out (subst (Contains (places_of points)) (at.place ∙ sym (same_place_there scene code limit a b are))
      (Contains-map (λ (d : CodePoint). d.point) points c (item_there points i c at.code)))

  no_word : (i j : ℕ) (c d : CodePoint) → IsAtPoint scene a i c → IsAtPoint scene b j d → (has_word a c → ⊥) → has_word b d → ⊥
  no_word i j c d at also other word =
      let one = one_point scene code limit a b are i j c d at also in
      other (ap (option_map (λ (f : Fetched). f.word))
      (sym (same_fetched (hart_of a.machine) (hart_of b.machine) are.machines are.hart.pc)) ∙ word
      ∙ ap (λ (e : CodePoint). Some e.word) (sym one.1))

  no_room : (i j : ℕ) (c d : CodePoint) → IsAtPoint scene a i c → IsCall c.flow
      → length a.stack.earlier + 1 ≡ most_activations → CanStep scene limit b j d → ⊥
  no_room i j c d at call full can =
      let one = one_point scene code limit a b are i j c d at can.at in
      can.room (subst (λ (e : CodePoint). IsCall e.flow) one.1 call)
      (ap (λ (st : Stack). length st.earlier + 1) (sym are.stacks) ∙ full)

  pub apart : Apart scene limit a b
  apart = record {
    off = off_on;
    spent = λ spent more. more (sym are.as_many ∙ spent);
    word = no_word;
    room = no_room;
    stays = λ why halts goes. goes why (stops_alike b a (flip a b are) why halts);
    astray = no_stop a b are;
  }

  pub no_turn : (i : ℕ) (c : CodePoint) (s t : Sight) (machine : Machine) (q : Spot) → MakesStep scene limit a i c s machine
      → Leaves c.flow s.told.next a.stack → Goes scene limit b t q → ⊥
  no_turn i c s t machine q makes gone g =
      let one = one_point scene code limit a b are i g.i c g.c makes.can.at g.makes.can.at in
      let made = one_made scene code limit a b are i g.i c g.c s t machine q.machine makes g.makes in
      let home : g.c.flow ≡ Return = ap (λ (e : CodePoint). e.flow) (sym one.1) ∙ gone.is_return in
      let turns : TurnsBy Return g.i scene.offsets t.told.regs t.told.next b.stack q.stack =
      subst (λ (f : Flow). TurnsBy f g.i scene.offsets t.told.regs t.told.next b.stack q.stack) home g.turned.turns in
      elim gone.elsewhere [
        | inl other ↦ other
            (ap (λ (st : Stack). st.last.return_to) are.stacks ∙ turns.0 ∙ ap (λ (u : Sight). Some u.told.next) (sym made.0))
        | inr none ↦ never_empty q.stack.earlier q.stack.last
            (sym turns.1 ∙ ap (λ (st : Stack). st.earlier) (sym are.stacks) ∙ none)
      ]

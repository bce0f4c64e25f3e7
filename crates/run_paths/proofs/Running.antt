-- One step of a run that keeps the discipline.
use Rattle.std.proofs.Common.{◌≡◌, ℕ, List, [], ◌∷◌, Contains, Option, Some, refl, ap, sym, ◌∙◌, subst}
use Rattle.elf_image.specs.declared.image.Image.{Image}
use Rattle.flow_points.specs.Flows.{next}
use Rattle.flow_points.specs.Walks.{by_flow, calls as calls_point, point, successors_of}
use Rattle.flow_points.specs.declared.code_points.Point.{Point}
use Rattle.flow_points.specs.declared.code_points.CodePoint.{CodePoint}
use Rattle.flow_points.specs.declared.code_points.Flow.{Flow}
use Rattle.flow_points.specs.declared.code_points.Flow.TheVariants.{Next, Jump, Branch, Call, Return, Halt}
use Rattle.flow_points.proofs.Lists.{first, second}
use Rattle.frame_offsets.specs.Frames.{goes_on}
use Rattle.rv_step.specs.Harts.{Hart}
use Rattle.rv_step.specs.Effects.{written}
use Rattle.rv_step.specs.Steps.{Executes, Step}
use Rattle.rv_step.proofs.HartsKept.{step_keeps_hart}
use Rattle.run_paths.specs.Lifts.{Lift, IsLiftOf}
use Rattle.run_paths.specs.Activations.{Activation, Site, called, turned_by}
use Rattle.run_paths.specs.Discipline.{LeavesCode, LeavesSlots, ReturnsToCaller, RestoresFrame}
use Rattle.run_paths.specs.Follows.{closed, mapped_by, opening_at, stepped}
use Rattle.run_paths.proofs.EffectsLand.{instr_lands}
use Rattle.run_paths.proofs.Finding.{found, next_code}
use Rattle.run_paths.proofs.Leading.{leads, no_pair_behind, plain_successors, ready_after}
use Rattle.run_paths.proofs.Lifted.{has_code}
use Rattle.run_paths.proofs.Linking.{Links}
use Rattle.run_paths.proofs.Making.{code_of, executes, flow_there, formed}
use Rattle.run_paths.proofs.Moments.{LastStands, StandsAt, at_point, fetches_kept, gives_link, last_stands, none_stand, same_code, words_of_hart}
use Rattle.run_paths.proofs.Moves.{moves}
use Rattle.run_paths.proofs.States.{AreWords}
use Rattle.run_paths.proofs.Pairs.{IsReady, reached, ready_if_entered}
use Rattle.run_paths.proofs.Standing.{AllStand, IsCalled}
use Rattle.run_paths.proofs.Turning.{IsPlain, StateLands, all_stand_called, all_stand_on, all_stand_returned}
use Rattle.run_paths.proofs.Turns.{KeepsMemory, TurnsBy, ends, enters, link_there, stays}

plain_turn : (c : CodePoint) (flow : Flow) (m : Hart) (activations : List Activation) → IsPlain flow → turned_by c flow m activations ≡ activations
plain_turn c (Next n) m activations plain = refl
plain_turn c (Jump t) m activations plain = refl
plain_turn c (Branch n t) m activations plain = refl
plain_turn c (Call t n) m activations plain = absurd plain
plain_turn c Return m activations plain = absurd plain
plain_turn c Halt m activations plain = refl

plain_map : (lift : Lift) (c : CodePoint) (flow : Flow) (m n : Hart) (a : Activation) (earlier : List Activation) (f : List ℕ) (maps : List (List ℕ))
    → IsPlain flow → mapped_by lift c flow m n (a ∷ earlier) (f ∷ maps) ≡ stepped lift a c n f ∷ maps
plain_map lift c (Next k) m n a earlier f maps plain = refl
plain_map lift c (Jump t) m n a earlier f maps plain = refl
plain_map lift c (Branch k t) m n a earlier f maps plain = refl
plain_map lift c (Call t k) m n a earlier f maps plain = absurd plain
plain_map lift c Return m n a earlier f maps plain = absurd plain
plain_map lift c Halt m n a earlier f maps plain = refl

module _ (image : Image) (lift : Lift) (is : IsLiftOf image lift) where
  pub links_there : (c : CodePoint) (target to : ℕ) → Contains lift.points.points c → c.flow ≡ Call target to → Links lift c to
  links_there c target to there flow =
      let fl = flow_there image lift.points is.points_are c there in
      (link_there lift c c.point.address image.unit (next c.point.address c.length) target to flow c.instr fl.upper fl.is).effect_is

  pub link_behind : (c : CodePoint) (target to : ℕ) → Contains lift.points.points c → c.flow ≡ Call target to → to ≡ next c.point.address c.length
  link_behind c target to there flow =
      let fl = flow_there image lift.points is.points_are c there in
      (link_there lift c c.point.address image.unit (next c.point.address c.length) target to flow c.instr fl.upper fl.is).behind

  -- one step, whatever its instruction
  module _ (start : List ℕ) (m n : Hart) (a : Activation) (earlier : List Activation) (f : List ℕ) (maps : List (List ℕ))
      (h : StandsAt image lift start m (a ∷ earlier) (f ∷ maps)) (s : Step m n) (leaves : LeavesSlots lift m n h.at a earlier)
      (code_stays : LeavesCode lift m n) where
    abbrev c : CodePoint
    c = h.at

    abbrev after : ℕ
    after = next c.point.address c.length

    words : AreWords m.registers
    words = words_of_hart m h.hart

    last : LastStands lift m.memory a f c m.registers
    last = last_stands lift start m.memory a earlier f maps c m.registers h.all

    there : Contains lift.points.points c
    there = last.stands.within

    made : Executes c.instr after m n
    made = executes image lift.points is.points_are c there m n h.pc (h.fetches c there) s

    pub turn : TurnsBy c.point.proc_entry c.flow after m n
    turn = leads image lift.points is.points_are c there m n h.pc words h.ready made

    standing : (b : Activation) (rest : List Activation) (fs : List (List ℕ)) (d : CodePoint) → Contains lift.points.points d
        → d.point ≡ point b.procedure n.pc → AllStand lift start n.memory (b ∷ rest) fs d n.registers → IsReady image d n.registers
        → StandsAt image lift start n (b ∷ rest) fs
    standing b rest fs d within at stand ready = record {
      at = d;
      is_at = found lift.points (has_code image lift is) d (point b.procedure n.pc) within at;
      pc = sym (ap (λ (q : Point). q.address) at);
      all = stand;
      ready = ready;
      hart = step_keeps_hart m n h.hart s;
      fetches = fetches_kept image lift is m n (same_code c.instr after m n made) code_stays h.fetches;
    }

    lands : StateLands lift a c m n
    lands =
        instr_lands image lift is a c m n (at_point image lift is m a f c last.entered h.pc words last.stands) c.instr after (formed image lift.points is.points_are c there)
        leaves.own made (gives_link lift a m.registers m.memory c.flow after words (λ target to flow. link_behind c target to there flow))

    within_last : IsPlain c.flow → Contains (goes_on c.point.proc_entry c.flow) (point c.point.proc_entry n.pc)
        → StandsAt image lift start n (a ∷ earlier) (stepped lift a c n f ∷ maps)
    within_last plain onto =
        let onward = plain_successors c.point.proc_entry c.flow (point c.point.proc_entry n.pc) plain onto in
        let d = next_code lift.points (has_code image lift is) c (point c.point.proc_entry n.pc) there onward in
        let to = subst (λ (q : Point). Contains (goes_on c.point.proc_entry c.flow) q) (sym d.2) onto in
        standing a earlier (stepped lift a c n f ∷ maps) d.0 d.1 (d.2 ∙ ap (λ (p : ℕ). point p n.pc) last.stands.owner)
        (all_stand_on image lift is start a earlier f maps m n c d.0 plain d.1 to
        (λ r from source. moves c.instr c.flow after m n r from plain words (formed image lift.points is.points_are c there) made source) lands leaves h.all)
        (ready_after image lift.points is.points_are is.accepted c d.0 m n after h.pc words there d.1 (subst (Contains (successors_of c.point.proc_entry c.flow)) (sym d.2) onward) made)

    into_callee : (target : ℕ) → c.flow ≡ Call target after → n.pc ≡ target → n.registers ≡ written m.registers 1 after → KeepsMemory m n
        → StandsAt image lift start n (called c target after m ∷ a ∷ earlier) (opening_at lift (called c target after m) n.memory ∷ f ∷ maps)
    into_callee target flow pc now memory =
        let onward = subst (λ (fl : Flow). Contains (successors_of c.point.proc_entry fl) (point target target)) (sym flow)
        (first (point target target) (point c.point.proc_entry after)) in
        let d = next_code lift.points (has_code image lift is) c (point target target) there onward in
        standing (called c target after m) (a ∷ earlier) (opening_at lift (called c target after m) n.memory ∷ f ∷ maps) d.0 d.1
        (d.2 ∙ ap (point target) (sym pc))
        (all_stand_called image lift is start a earlier (f ∷ maps) m n c d.0 target after flow words now memory d.1 d.2 h.all)
        (ready_if_entered image lift.points is.points_are is.accepted d.0 n.registers d.1
        (by_flow c.point c.flow (reached image lift.points is.points_are is.accepted c there) (code_of image lift.points is.points_are c there).flow (calls_point target after flow d.2)))

  -- back in the caller
  record IsCaller (a b : Activation) : Type 0 where
    pub site : Site
    pub is_call : IsCalled lift a site
    pub within : Contains lift.points.points site.from
    pub owner : site.from.point.proc_entry ≡ b.procedure

  caller : (start : List ℕ) (memory : ℕ → ℕ) (a b : Activation) (earlier : List Activation) (f g : List ℕ) (maps : List (List ℕ)) (c : CodePoint) (regs : List ℕ)
      → AllStand lift start memory (a ∷ b ∷ earlier) (f ∷ g ∷ maps) c regs → IsCaller a b
  caller start memory a b earlier f g maps c regs h =
      let stands = (last_stands lift start memory b earlier g maps h.0.from a.registers h.3).stands in
      record { site = h.0; is_call = h.1; within = stands.within; owner = stands.owner }

  back_in_caller : (start : List ℕ) (m n : Hart) (a b : Activation) (earlier : List Activation) (f g : List ℕ) (maps : List (List ℕ))
      (h : StandsAt image lift start m (a ∷ b ∷ earlier) (f ∷ g ∷ maps)) → Step m n → LeavesSlots lift m n h.at a (b ∷ earlier) → LeavesCode lift m n
      → ReturnsToCaller n h.at a → RestoresFrame lift m h.at a → h.at.flow ≡ Return → n.registers ≡ m.registers → KeepsMemory m n
      → StandsAt image lift start n (b ∷ earlier) (closed lift a.call b f g ∷ maps)
  back_in_caller start m n a b earlier f g maps h s leaves code_stays home restores flow now memory =
      let by = caller start m.memory a b earlier f g maps h.at m.registers h.all in
      let from = by.site.from in
      let onward = subst (λ (fl : Flow). Contains (successors_of from.point.proc_entry fl) (point from.point.proc_entry by.site.next)) (sym by.is_call.flow)
      (second (point a.procedure a.procedure) (point from.point.proc_entry by.site.next)) in
      let d = next_code lift.points (has_code image lift is) from (point from.point.proc_entry by.site.next) by.within onward in
      let pc = home.home flow by.site by.is_call.from in
      standing start m n a (b ∷ earlier) f (g ∷ maps) h s leaves code_stays b earlier (closed lift a.call b f g ∷ maps) d.0 d.1
      (d.2 ∙ ap (λ (p : ℕ). point p by.site.next) by.owner ∙ ap (point b.procedure) (sym pc))
      (all_stand_returned image lift is start a b earlier f g maps m n h.at d.0
      (λ site called. subst (λ (t : Site). Links lift t.from t.next) (one_site called by.is_call.from) (links_there from a.procedure by.site.next by.within by.is_call.flow))
      flow now memory d.1
      (λ site called. subst (λ (t : Site). d.0.point ≡ point t.from.point.proc_entry t.next) (one_site called by.is_call.from) d.2)
      restores h.all)
      (no_pair_behind image lift.points is.points_are is.accepted from d.0 a.procedure by.site.next n.registers by.within d.1 by.is_call.flow (subst (Contains (successors_of from.point.proc_entry from.flow)) (sym d.2) onward))
    where
      one_site : {o : Option Site} {s t : Site} → o ≡ Some s → o ≡ Some t → t ≡ s
      one_site e f = cc

  pub one_step : (start : List ℕ) (m n : Hart) (a : Activation) (earlier : List Activation) (f : List ℕ) (maps : List (List ℕ))
      (h : StandsAt image lift start m (a ∷ earlier) (f ∷ maps)) → Step m n → LeavesSlots lift m n h.at a earlier → LeavesCode lift m n
      → ReturnsToCaller n h.at a → RestoresFrame lift m h.at a
      → StandsAt image lift start n (turned_by h.at h.at.flow m (a ∷ earlier)) (mapped_by lift h.at h.at.flow m n (a ∷ earlier) (f ∷ maps))
  one_step start m n a earlier f maps h s leaves code_stays home restores =
      by (turn start m n a earlier f maps h s leaves code_stays)
    where
      After : Flow → Type 0
      After flow = StandsAt image lift start n (turned_by h.at flow m (a ∷ earlier)) (mapped_by lift h.at flow m n (a ∷ earlier) (f ∷ maps))

      returned : (earlier : List Activation) (maps : List (List ℕ)) (k : StandsAt image lift start m (a ∷ earlier) (f ∷ maps))
          → LeavesSlots lift m n k.at a earlier → ReturnsToCaller n k.at a → RestoresFrame lift m k.at a → k.at.flow ≡ Return → n.registers ≡ m.registers → KeepsMemory m n
          → StandsAt image lift start n (turned_by k.at Return m (a ∷ earlier)) (mapped_by lift k.at Return m n (a ∷ earlier) (f ∷ maps))
      returned [] [] k leaves home restores flow now memory = absurd (home.not_first flow k.all.0.none)
      returned [] (g ∷ maps) k leaves home restores flow now memory = absurd k.all
      returned (b ∷ rest) [] k leaves home restores flow now memory = absurd (none_stand lift start m.memory b rest k.all.0.from a.registers k.all.3)
      returned (b ∷ rest) (g ∷ maps) k leaves home restores flow now memory =
          back_in_caller start m n a b rest f g maps k s leaves code_stays home restores flow now memory

      by : TurnsBy h.at.point.proc_entry h.at.flow (next h.at.point.address h.at.length) m n → After h.at.flow
      by (stays plain onto) =
          subst (λ (acts : List Activation). StandsAt image lift start n acts (mapped_by lift h.at h.at.flow m n (a ∷ earlier) (f ∷ maps)))
          (sym (plain_turn h.at h.at.flow m (a ∷ earlier) plain))
          (subst (λ (fs : List (List ℕ)). StandsAt image lift start n (a ∷ earlier) fs) (sym (plain_map lift h.at h.at.flow m n a earlier f maps plain))
          (within_last start m n a earlier f maps h s leaves code_stays plain onto))
      by (enters target flow pc now memory) =
          subst After (sym flow) (into_callee start m n a earlier f maps h s leaves code_stays target flow pc now memory)
      by (ends flow pc now memory) = subst After (sym flow) (returned earlier maps h leaves home restores flow now memory)

-- One step, by what its flow is: within the last activation, a call, a return.
use Rattle.std.proofs.Common.{◌≡◌, ℕ, ◌^◌, ◌<◌, ℤ, pos, Bool, true, false, List, [], ◌∷◌, All, Contains, slice_index, Option, None, Some, inl, inr, refl, ap, sym, ◌∙◌, arith, subst, ◌⊎◌, if◌then◌else◌, ◌==◌, ◌||◌, ◌&&◌, nat_le}
use Rattle.std.proofs.lemmas.Bool.{eqb-true}
use Rattle.std.proofs.lemmas.List.Elements.{All-head}
use Rattle.elf_image.specs.declared.image.Image.{Image}
use Rattle.word_rows.specs.Rows.{IsState}
use Rattle.map_modules.specs.Matrices.{apply}
use Rattle.map_modules.proofs.Entries.{IsRow-vector}
use Rattle.flow_points.specs.Flows.{plus}
use Rattle.flow_points.specs.Walks.{point}
use Rattle.flow_points.specs.declared.code_points.Point.{Point}
use Rattle.flow_points.specs.declared.code_points.CodePoint.{CodePoint}
use Rattle.flow_points.specs.declared.code_points.Flow.{Flow}
use Rattle.flow_points.specs.declared.code_points.Flow.TheVariants.{Next, Jump, Branch, Call, Return, Halt}
use Rattle.flow_points.proofs.Cited.{Contains-map}
use Rattle.frame_offsets.specs.Frames.{source_of, goes_on, FrameWalk, begin, HasOffset}
use Rattle.frame_offsets.proofs.Walking.{extended, goes_proc}
use Rattle.affine_prog.specs.Programs.{edge, exit_of}
use Rattle.affine_prog.specs.LevelPaths.{opening, step, call, step_map}
use Rattle.affine_prog.specs.declared.Kind.TheVariants.{Do, Call as CallEdge}
use Rattle.affine_lift.specs.Lifting.{edges_by, exit_of as exit_node}
use Rattle.rv_step.specs.Harts.{Hart, x}
use Rattle.rv_step.specs.Effects.{written}
use Rattle.run_paths.specs.Lifts.{Lift, IsLiftOf, effect, node, number, registers, slots}
use Rattle.run_paths.specs.Activations.{Activation, Site, behind, called, state_of}
use Rattle.run_paths.specs.Discipline.{KeepsSlots, LeavesSlots, RestoresFrame, is_saved}
use Rattle.run_paths.specs.Follows.{chosen, stepped, opening_at, closed, slot_words}
use Rattle.run_paths.specs.Maps.{changed, returned}
use Rattle.run_paths.proofs.Acting.{apply-opening, apply-step, apply-call}
use Rattle.run_paths.proofs.Moving.{offset_back}
use Rattle.run_paths.proofs.Lifted.{edge_there, entry_is, exit_is, number_within, owned}
use Rattle.run_paths.proofs.Linking.{Links, link_acts, link_choice}
use Rattle.run_paths.proofs.Writing.{written_other}
use Rattle.run_paths.proofs.States.{AreWords, HasRegisters, IsState-state_of, opened_state, returned_state, same_slots, state_has}
use Rattle.run_paths.proofs.Choosing.{Choice-chosen, IsRow-slot_words}
use Rattle.run_paths.proofs.Standing.{Stands, IsCalled, AllStand, entered_with, all_still}
use Rattle.run_paths.proofs.Landing.{Lands}

-- registers that have an offset move by the instruction's own rule
abbrev pub RegistersMove : CodePoint → List ℕ → List ℕ → Type 0
RegistersMove c old new =
    (r : ℕ) (from : ℕ × ℤ) → source_of c.instr c.flow r ≡ Some from → slice_index new r ≡ plus (slice_index old from.0) from.1

abbrev pub StateLands : Lift → Activation → CodePoint → Hart → Hart → Type 0
StateLands lift a c m n = Lands (effect lift c) (state_of lift a m.registers m.memory) (state_of lift a n.registers n.memory)

sums : (sp o : ℕ) (z : ℤ) → plus (behind sp o) z ≡ behind sp (plus o z)
sums sp o z = omega arith

-- the edge of a flow that stays in the procedure
abbrev pub IsPlain : Flow → Type 0
IsPlain (Call target next) = ⊥
IsPlain Return = ⊥
IsPlain flow = Unit {0}

plain_edge : (lift : Lift) (c d : CodePoint) (flow : Flow) → IsPlain flow → Contains (goes_on c.point.proc_entry flow) d.point
    → Contains (edges_by lift.points (effect lift c) (node lift c.point) c.point.proc_entry flow) (edge (node lift c.point) (node lift d.point) (Do (effect lift c)))
plain_edge lift c d (Next next) plain goes = Contains-map (λ (to : Point). edge (node lift c.point) (node lift to) (Do (effect lift c))) (goes_on c.point.proc_entry (Next next)) d.point goes
plain_edge lift c d (Jump target) plain goes = Contains-map (λ (to : Point). edge (node lift c.point) (node lift to) (Do (effect lift c))) (goes_on c.point.proc_entry (Jump target)) d.point goes
plain_edge lift c d (Branch next target) plain goes = Contains-map (λ (to : Point). edge (node lift c.point) (node lift to) (Do (effect lift c))) (goes_on c.point.proc_entry (Branch next target)) d.point goes
plain_edge lift c d (Call target next) plain goes = absurd plain
plain_edge lift c d Return plain goes = absurd plain
plain_edge lift c d Halt plain goes = absurd (omega (arith, goes.1))

first_in : {X : Type 0} (x : X) (xs : List X) → Contains (x ∷ xs) x
first_in x xs = (0, omega arith, refl)

module _ (image : Image) (lift : Lift) (is : IsLiftOf image lift) where
  -- within the last activation, from the point c to the point d
  stands_on : (a : Activation) (f : List ℕ) (m n : Hart) (c d : CodePoint) (entered : List ℕ) → IsPlain c.flow → Contains lift.points.points d
      → Contains (goes_on c.point.proc_entry c.flow) d.point → RegistersMove c m.registers n.registers → StateLands lift a c m n
      → Stands lift m.memory a f c m.registers entered → Stands lift n.memory a (stepped lift a c n f) d n.registers entered
  stands_on a f m n c d entered plain within goes moves lands s =
      let t = state_of lift a n.registers n.memory in
      let words = chosen (effect lift c) t in
      let same = goes_proc c.point.proc_entry c.flow d.point goes in
      record {
        path = step (number lift a.procedure) (node lift c.point) (node lift d.point) (effect lift c) words f _ s.path
            (edge_there image lift is c _ s.within (plain_edge lift c d c.flow plain goes)) (Choice-chosen (effect lift c) t (IsRow-vector _)) refl;
        state = apply-step (effect lift c) words f entered (IsRow-vector _) ∙ ap (changed (effect lift c) words) s.state ∙ lands;
        within = within;
        owner = same ∙ s.owner;
        walk = c ∷ s.walk;
        walked = extended lift.points.points s.walk c d s.walked within goes;
        offsets = λ r o has.
            let back = offset_back lift.points.points c d s.walk r o s.walked within goes has in
            moves r back.from back.is ∙ ap (λ (w : ℕ). plus w back.from.1) (s.offsets back.from.0 back.offset back.has)
            ∙ sums a.entry_sp back.offset back.from.1 ∙ ap (behind a.entry_sp) back.sum;
      }

  pub all_stand_on : (start : List ℕ) (a : Activation) (earlier : List Activation) (f : List ℕ) (maps : List (List ℕ)) (m n : Hart) (c d : CodePoint)
      → IsPlain c.flow → Contains lift.points.points d → Contains (goes_on c.point.proc_entry c.flow) d.point
      → RegistersMove c m.registers n.registers → StateLands lift a c m n → LeavesSlots lift m n c a earlier
      → AllStand lift start m.memory (a ∷ earlier) (f ∷ maps) c m.registers
      → AllStand lift start n.memory (a ∷ earlier) (stepped lift a c n f ∷ maps) d n.registers
  all_stand_on start a [] f [] m n c d plain within goes moves lands leaves h = (h.0, stands_on a f m n c d start plain within goes moves lands h.1)
  all_stand_on start a [] f (g ∷ maps) m n c d plain within goes moves lands leaves h = h
  all_stand_on start a (b ∷ earlier) f maps m n c d plain within goes moves lands leaves h =
      let same = same_slots lift m n b (written a.registers 1 h.0.next) (All-head (KeepsSlots lift m n) b earlier leaves.others) in (
        h.0,
        h.1,
        subst (λ (s : List ℕ). Stands lift n.memory a (stepped lift a c n f) d n.registers s) same
            (stands_on a f m n c d _ plain within goes moves lands h.2),
        all_still lift start m n (b ∷ earlier) maps h.0.from a.registers leaves.others h.3,
      )

  -- an opening
  entry_offset : (two : Bool) (r o : ℕ) (regs : List ℕ) → slice_index regs 2 < 2 ^ 64 → (r == 2) ≡ two → (if two then Some 0 else None) ≡ Some o
      → slice_index regs r ≡ behind (slice_index regs 2) o
  entry_offset true r o regs small is_2 e =
      let none : 0 ≡ o = cc in
      ap (slice_index regs) (eqb-true r 2 is_2) ∙ (let e : slice_index regs 2 ≡ behind (slice_index regs 2) 0 = omega arith in e)
      ∙ ap (behind (slice_index regs 2)) none
  entry_offset false r o regs small is_2 e = cc

  pub opens : (a : Activation) (memory : ℕ → ℕ) (d : CodePoint) (regs entered : List ℕ) → Contains lift.points.points d
      → d.point ≡ point a.procedure a.procedure → Contains lift.points.procedures a.procedure → slice_index regs 2 < 2 ^ 64
      → a.entry_sp ≡ slice_index regs 2 → HasRegisters lift regs entered → IsState entered
      → Stands lift memory a (opening_at lift a memory) d regs entered
  opens a memory d regs entered within at own small stack has state =
      let walked : FrameWalk lift.points.points d.point.proc_entry [] d =
      begin [] d refl within (at ∙ ap (λ (p : ℕ). point p p) (sym (ap (λ (q : Point). q.proc_entry) at))) in
      record {
        path = opening (number lift a.procedure) (node lift d.point) (slot_words lift a memory) (opening_at lift a memory)
            (number_within image lift is a.procedure own) (ap (node lift) at ∙ sym (entry_is image lift is a.procedure own))
            (IsRow-slot_words lift a memory) refl;
        state =
            apply-opening (registers lift) (slots lift a.procedure) (slot_words lift a memory) entered state
            ∙ opened_state image lift is a own regs memory entered has;
        within = within;
        owner = ap (λ (q : Point). q.proc_entry) at;
        walk = [];
        walked = walked;
        offsets = λ r o has_offset.
            entry_offset (r == 2) r o regs small refl (has_offset [] walked) ∙ ap (λ (sp : ℕ). behind sp o) (sym stack);
      }

  -- a call
  kept_all : (m n : Hart) (activations : List Activation) → ((b : ℕ) → b < 2 ^ 64 → n.memory b ≡ m.memory b) → All (KeepsSlots lift m n) activations
  kept_all m n activations same i d below k address slot j h = same (behind address j) (omega arith)

  pub all_stand_called : (start : List ℕ) (a : Activation) (earlier : List Activation) (maps : List (List ℕ)) (m n : Hart) (c d : CodePoint) (target next : ℕ)
      → c.flow ≡ Call target next → AreWords m.registers → n.registers ≡ written m.registers 1 next
      → ((b : ℕ) → b < 2 ^ 64 → n.memory b ≡ m.memory b) → Contains lift.points.points d → d.point ≡ point target target
      → AllStand lift start m.memory (a ∷ earlier) maps c m.registers
      → AllStand lift start n.memory (called c target next m ∷ a ∷ earlier) (opening_at lift (called c target next m) n.memory ∷ maps) d n.registers
  all_stand_called start a earlier maps m n c d target next flow words now same within at h =
      let new = called c target next m in
      let site : Site = record { from = c; next = next } in
      let entered = entered_with lift n.memory new a site in
      let sp : slice_index n.registers 2 ≡ x m 2 = ap (λ (regs : List ℕ). slice_index regs 2) now ∙ written_other m.registers 1 next 2 (λ e. cc) in (
        site,
        record { from = refl; flow = flow; stack = refl; words = words },
        opens new n.memory d n.registers entered within at
            (subst (Contains lift.points.procedures) (ap (λ (q : Point). q.proc_entry) at) (owned image lift is d within))
            (let two = words.words 2 in omega (arith, sp)) (sym sp)
            (subst (λ (regs : List ℕ). HasRegisters lift regs entered) (sym now) (state_has image lift is a (written m.registers 1 next) n.memory))
            (IsState-state_of lift a (written m.registers 1 next) n.memory),
        all_still lift start m n (a ∷ earlier) maps c m.registers (kept_all m n (a ∷ earlier) same) h,
      )

  -- a return
  kept_by_call : (c : CodePoint) (target next r : ℕ) (from : ℕ × ℤ) → c.flow ≡ Call target next → source_of c.instr c.flow r ≡ Some from
      → ((r ≡ 2) ⊎ (is_saved r ≡ true)) × (from ≡ (r, pos 0))
  kept_by_call c target next r from flow e =
      by (r == 2) (is_saved r) refl refl
      (ap (λ (kept : Bool). if kept then Some (r, pos 0) else None) (sym (regrouped (r == 2) (r == 8) (r == 9) (nat_le 18 r && nat_le r 27)))
      ∙ ap (λ (f : Flow). source_of c.instr f r) (sym flow) ∙ e)
    where
      regrouped : (a b c d : Bool) → (((a || b) || c) || d) ≡ (a || ((b || c) || d))
      regrouped true b c d = refl
      regrouped false b c d = refl

      by : (two saved : Bool) → (r == 2) ≡ two → is_saved r ≡ saved → (if two || saved then Some (r, pos 0) else None) ≡ Some from
          → ((r ≡ 2) ⊎ (is_saved r ≡ true)) × (from ≡ (r, pos 0))
      by true saved t s kept = (inl (eqb-true r 2 t), sym (let k : (r, pos 0) ≡ from = cc in k))
      by false true t s kept = (inr s, sym (let k : (r, pos 0) ≡ from = cc in k))
      by false false t s kept = cc

  pub call_edge : (c : CodePoint) (target next : ℕ) (to : Point) → c.flow ≡ Call target next → to ≡ point c.point.proc_entry next → Contains lift.points.points c
      → Contains lift.program.edges (edge (node lift c.point) (node lift to) (CallEdge (number lift target) (effect lift c)))
  call_edge c target next to flow at there =
      edge_there image lift is c _ there
      (subst (λ (f : Flow). Contains (edges_by lift.points (effect lift c) (node lift c.point) c.point.proc_entry f) (edge (node lift c.point) (node lift to) (CallEdge (number lift target) (effect lift c)))) (sym flow)
      (subst (λ (q : Point). Contains (edge (node lift c.point) (node lift (point c.point.proc_entry next)) (CallEdge (number lift target) (effect lift c)) ∷ [])
      (edge (node lift c.point) (node lift q) (CallEdge (number lift target) (effect lift c)))) (sym at) (first_in _ [])))

  pub return_edge : (c : CodePoint) (p : ℕ) → c.flow ≡ Return → c.point.proc_entry ≡ p → Contains lift.points.points c
      → Contains lift.program.edges (edge (node lift c.point) (exit_of lift.program (number lift p)) (Do []))
  return_edge c p flow owner there =
      let own = owned image lift is c there in
      let exit : exit_of lift.program (number lift p) ≡ exit_node lift.points c.point.proc_entry =
      ap (λ (q : ℕ). exit_of lift.program (number lift q)) (sym owner) ∙ exit_is image lift is c.point.proc_entry own in
      edge_there image lift is c _ there
      (subst (λ (f : Flow). Contains (edges_by lift.points (effect lift c) (node lift c.point) c.point.proc_entry f) (edge (node lift c.point) (exit_of lift.program (number lift p)) (Do []))) (sym flow)
      (subst (λ (v : ℕ). Contains (edge (node lift c.point) (exit_node lift.points c.point.proc_entry) (Do []) ∷ []) (edge (node lift c.point) v (Do []))) (sym exit) (first_in _ [])))

  stands_returned : (a b : Activation) (f g : List ℕ) (m : Hart) (c d : CodePoint) (site : Site) (entered : List ℕ)
      → Links lift site.from site.next → c.flow ≡ Return → IsCalled lift a site
      → Contains lift.points.points d → d.point ≡ point site.from.point.proc_entry site.next → RestoresFrame lift m c a
      → Stands lift m.memory a f c m.registers (entered_with lift m.memory a b site) → Stands lift m.memory b g site.from a.registers entered
      → Stands lift m.memory b (closed lift (Some site) b f g) d m.registers entered
  stands_returned a b f g m c d site entered links flow is_called within at restores callee caller =
      let before = effect lift site.from in
      let done = step_map [] [] f in
      let linked = state_of lift b (written a.registers 1 site.next) m.memory in
      let own = subst (Contains lift.points.procedures) caller.owner (owned image lift is site.from caller.within) in
      let goes : Contains (goes_on site.from.point.proc_entry site.from.flow) d.point =
      subst (λ (fl : Flow). Contains (goes_on site.from.point.proc_entry fl) d.point) (sym is_called.flow)
      (subst (λ (q : Point). Contains (point site.from.point.proc_entry site.next ∷ []) q) (sym at) (first_in _ [])) in
      record {
        path = call (number lift b.procedure) (number lift a.procedure) (node lift site.from.point) (node lift d.point) before [] g done _ caller.path
            (call_edge site.from a.procedure site.next d.point is_called.flow at caller.within) (link_choice lift site.from site.next links)
            (step (number lift a.procedure) (node lift c.point) (exit_of lift.program (number lift a.procedure)) [] [] f done callee.path
            (return_edge c a.procedure flow callee.owner callee.within) (record { width = refl; words = refl }) refl) refl;
        state =
            apply-call (registers lift) (slots lift b.procedure) before [] done g entered (IsRow-vector _)
            ∙ ap (λ (s : List ℕ). returned (registers lift) (slots lift b.procedure) (changed before [] s) (apply done (changed before [] s))) caller.state
            ∙ ap (λ (s : List ℕ). returned (registers lift) (slots lift b.procedure) s (apply done s))
            (link_acts image lift is site.from site.next b a.registers m.memory links is_called.words.count is_called.words.zero_is)
            ∙ ap (returned (registers lift) (slots lift b.procedure) linked) (apply-step [] [] f linked (IsRow-vector _) ∙ callee.state)
            ∙ returned_state image lift is b own (written a.registers 1 site.next) m.registers m.memory (state_of lift a m.registers m.memory)
            (state_has image lift is a m.registers m.memory);
        within = within;
        owner = ap (λ (q : Point). q.proc_entry) at ∙ caller.owner;
        walk = site.from ∷ caller.walk;
        walked = extended lift.points.points caller.walk site.from d caller.walked within goes;
        offsets = λ r o has.
            let back = offset_back lift.points.points site.from d caller.walk r o caller.walked within goes has in
            let kept = kept_by_call site.from a.procedure site.next r back.from is_called.flow back.is in
            let had : HasOffset lift.points.points site.from r back.offset =
            subst (λ (s : ℕ × ℤ). HasOffset lift.points.points site.from s.0 back.offset) kept.1 back.has in
            let is_o : plus back.offset (pos 0) ≡ o = subst (λ (s : ℕ × ℤ). plus back.offset s.1 ≡ o) kept.1 back.sum in
            let restored : x m r ≡ slice_index a.registers r = elim kept.0 [
              | inl two ↦ subst (λ (q : ℕ). x m q ≡ slice_index a.registers q) (sym two) (restores.stack flow ∙ is_called.stack)
              | inr saved ↦ restores.relied flow r (record { saved = saved; site = site; is_call = is_called.from; offset = back.offset; has = had })
            ] in
            restored ∙ caller.offsets r back.offset had ∙ same_offset b.entry_sp back.offset ∙ ap (behind b.entry_sp) is_o;
      }
    where
      same_offset : (sp o : ℕ) → behind sp o ≡ behind sp (plus o (pos 0))
      same_offset sp o = omega arith

  -- the same, with the activations before
  pub all_stand_returned : (start : List ℕ) (a b : Activation) (earlier : List Activation) (f g : List ℕ) (maps : List (List ℕ)) (m n : Hart) (c d : CodePoint)
      → ((site : Site) → a.call ≡ Some site → Links lift site.from site.next) → c.flow ≡ Return → n.registers ≡ m.registers → ((b : ℕ) → b < 2 ^ 64 → n.memory b ≡ m.memory b) → Contains lift.points.points d
      → ((site : Site) → a.call ≡ Some site → d.point ≡ point site.from.point.proc_entry site.next) → RestoresFrame lift m c a
      → AllStand lift start m.memory (a ∷ b ∷ earlier) (f ∷ g ∷ maps) c m.registers
      → AllStand lift start n.memory (b ∷ earlier) (closed lift a.call b f g ∷ maps) d n.registers
  all_stand_returned start a b earlier f g maps m n c d links flow now same within at restores h =
      let site = h.0 in
      let from = h.1.from in
      subst (λ (o : Option Site). AllStand lift start n.memory (b ∷ earlier) (closed lift o b f g ∷ maps) d n.registers) (sym from)
      (subst (λ (regs : List ℕ). AllStand lift start n.memory (b ∷ earlier) (closed lift (Some site) b f g ∷ maps) d regs) (sym now)
      (all_still lift start m n (b ∷ earlier) (closed lift (Some site) b f g ∷ maps) d m.registers (kept_all m n (b ∷ earlier) same)
      (by earlier maps h.3)))
    where
      by : (earlier : List Activation) (maps : List (List ℕ)) → AllStand lift start m.memory (b ∷ earlier) (g ∷ maps) h.0.from a.registers
          → AllStand lift start m.memory (b ∷ earlier) (closed lift (Some h.0) b f g ∷ maps) d m.registers
      by [] [] k =
          (k.0, stands_returned a b f g m c d h.0 start (links h.0 h.1.from) flow h.1 within (at h.0 h.1.from) restores h.2 k.1)
      by [] (e ∷ maps) k = k
      by (next ∷ earlier) maps k =
          (k.0, k.1, stands_returned a b f g m c d h.0 _ (links h.0 h.1.from) flow h.1 within (at h.0 h.1.from) restores h.2 k.2, k.3)

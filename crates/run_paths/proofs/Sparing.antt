-- What certificates spare of the discipline.
use Rattle.std.proofs.Common.{◌≡◌, ◌≢◌, ◌⊎◌, ℕ, zero, suc, ◌+◌, ◌%◌, ◌^◌, ◌≤◌, Bool, true, false, List, [], ◌∷◌, Contains, slice_index, Option, None, Some, inl, inr, refl, ap, sym, ◌∙◌, arith, subst}
use Rattle.std.proofs.lemmas.Bool.{cases_lt}
use Rattle.elf_image.specs.declared.image.Image.{Image}
use Rattle.flow_points.specs.declared.code_points.CodePoint.{CodePoint}
use Rattle.flow_points.specs.declared.code_points.Flow.{Flow}
use Rattle.flow_points.specs.declared.code_points.Flow.TheVariants.{Call, Return}
use Rattle.rv_step.specs.Harts.{Hart, x}
use Rattle.rv_step.specs.Steps.{Step, even}
use Rattle.run_paths.specs.Lifts.{Lift, IsLiftOf}
use Rattle.run_paths.specs.Activations.{Activation, Site, activations_at, point_of, start_of}
use Rattle.run_paths.specs.Discipline.{IsRunTo, KeepsDiscipline, KeepsRules, LeavesSlots, is_saved}
use Rattle.run_paths.specs.Follows.{path_of}
use Rattle.run_paths.specs.Relations.{IsSpared, KeepsDisciplineBut, KeepsRulesBut, opening_registers, registers_with}
use Rattle.run_paths.proofs.Certifying.{restored}
use Rattle.run_paths.proofs.Fetching.{fetched_even}
use Rattle.run_paths.proofs.Following.{moments}
use Rattle.run_paths.proofs.Lifted.{owned}
use Rattle.run_paths.proofs.Moments.{StandsAt, last_stands, none_stand, words_of_hart}
use Rattle.run_paths.proofs.Running.{link_behind, turn}
use Rattle.run_paths.proofs.Standing.{AllStand}
use Rattle.run_paths.proofs.States.{AreWords}
use Rattle.run_paths.proofs.Turning.{IsPlain}
use Rattle.run_paths.proofs.Turns.{TurnsBy, ends, enters, stays}
use Rattle.run_paths.proofs.Writing.{written_other, written_same}

either : {P : Type 0} (b : Bool) → (b ≡ true → P) → (b ≡ false → P) → P
either true on off = on refl
either false on off = off refl

return_pc : (p after : ℕ) (flow : Flow) (m n : Hart) → TurnsBy p flow after m n → flow ≡ Return → n.pc ≡ even (x m 1)
return_pc p after flow m n (stays plain onto) is = absurd (subst IsPlain is plain)
return_pc p after flow m n (enters target call pc now memory) is = let clash : Call target after ≡ Return = sym call ∙ is in cc clash
return_pc p after flow m n (ends flow_is pc now memory) is = pc

-- a call's link, and the registers of its moment
record HasLink (lift : Lift) (a : Activation) (site : Site) : Type 0 where
  pub words : AreWords a.registers
  pub within : Contains lift.points.points site.from
  pub flow : site.from.flow ≡ Call a.procedure site.next

link_of : (lift : Lift) (start : List ℕ) (memory : ℕ → ℕ) (a : Activation) (earlier : List Activation) (maps : List (List ℕ)) (c : CodePoint)
    (regs : List ℕ) (site : Site) → AllStand lift start memory (a ∷ earlier) maps c regs → a.call ≡ Some site → HasLink lift a site
link_of lift start memory a [] [] c regs site h called = absurd h
link_of lift start memory a [] (f ∷ []) c regs site h called = let clash : None ≡ Some site = sym h.0.none ∙ called in cc clash
link_of lift start memory a [] (f ∷ g ∷ maps) c regs site h called = absurd h
link_of lift start memory a (b ∷ earlier) [] c regs site h called = absurd h
link_of lift start memory a (b ∷ earlier) (f ∷ []) c regs site h called = absurd (none_stand lift start memory b earlier h.0.from a.registers h.3)
link_of lift start memory a (b ∷ earlier) (f ∷ g ∷ maps) c regs site h called =
    let same : h.0 ≡ site = (let e = sym h.1.from ∙ called in cc e) in
    subst (HasLink lift a) same (record {
      words = h.1.words;
      within = (last_stands lift start memory b earlier g maps h.0.from a.registers h.3).stands.within;
      flow = h.1.flow;
    })

last_stack : (lift : Lift) (start : List ℕ) (memory : ℕ → ℕ) (a : Activation) (earlier : List Activation) (maps : List (List ℕ)) (c : CodePoint)
    (regs : List ℕ) → AllStand lift start memory (a ∷ earlier) maps c regs → a.entry_sp ≡ slice_index a.registers 2
last_stack lift start memory a [] [] c regs h = absurd h
last_stack lift start memory a [] (f ∷ []) c regs h = h.0.stack
last_stack lift start memory a [] (f ∷ g ∷ maps) c regs h = absurd h
last_stack lift start memory a (b ∷ earlier) [] c regs h = absurd h
last_stack lift start memory a (b ∷ earlier) (f ∷ maps) c regs h = h.1.stack

opening_other : (o : Option Site) (regs : List ℕ) (r : ℕ) → r ≢ 1 → slice_index (registers_with o regs) r ≡ slice_index regs r
opening_other None regs r other = refl
opening_other (Some site) regs r other = written_other regs 1 site.next r other

saved_other : (r : ℕ) → is_saved r ≡ true → r ≢ 1
saved_other r saved same = let one : is_saved 1 ≡ true = ap is_saved (sym same) ∙ saved in cc one

even_sum : (a l : ℕ) → a % 2 ≡ 0 → l % 2 ≡ 0 → even ((a + l) % 2 ^ 64) ≡ (a + l) % 2 ^ 64
even_sum a l e f = omega arith

even_place : (a unit : ℕ) → (unit ≡ 2) ⊎ (unit ≡ 4) → a % unit ≡ 0 → a % 2 ≡ 0
even_place a unit (inl two) e = let f : a % 2 ≡ 0 = ap (λ (u : ℕ). a % u) (sym two) ∙ e in f
even_place a unit (inr four) e = let f : a % 4 ≡ 0 = ap (λ (u : ℕ). a % u) (sym four) ∙ e in omega arith

module _ (image : Image) (lift : Lift) (is : IsLiftOf image lift) (spared : ℕ → Bool) (are_spared : (r : ℕ) → spared r ≡ true → IsSpared lift r) where
  spared_back : (start : List ℕ) (m : Hart) (a : Activation) (earlier : List Activation) (maps : List (List ℕ)) (r : ℕ)
      → (h : StandsAt image lift start m (a ∷ earlier) maps) → h.at.flow ≡ Return → spared r ≡ true → x m r ≡ slice_index (opening_registers a) r
  spared_back start m a earlier [] r h flow e = absurd (none_stand lift start m.memory a earlier h.at m.registers h.all)
  spared_back start m a earlier (f ∷ maps) r h flow e =
      let s = (last_stands lift start m.memory a earlier f maps h.at m.registers h.all).stands in
      let own = subst (Contains lift.points.procedures) s.owner (owned image lift is h.at s.within) in
      let sp = are_spared r e in
      restored image lift is start m.memory a earlier (f ∷ maps) h.at m.registers sp.position r h.all flow (words_of_hart m h.hart) sp.tracked
      (sp.certified a.procedure own)

  home_spared : (start : List ℕ) (m n : Hart) (a : Activation) (earlier : List Activation) (maps : List (List ℕ)) (site : Site)
      → (h : StandsAt image lift start m (a ∷ earlier) maps) → n.pc ≡ even (x m 1) → a.call ≡ Some site
      → x m 1 ≡ slice_index (opening_registers a) 1 → n.pc ≡ site.next
  home_spared start m n a earlier maps site h pc called back =
      let link = link_of lift start m.memory a earlier maps h.at m.registers site h.all called in
      let ra : x m 1 ≡ site.next =
      back ∙ ap (λ (o : Option Site). slice_index (registers_with o a.registers) 1) called
      ∙ written_same a.registers 1 site.next (λ e. cc) (let n = link.words.count in omega arith) in
      let behind = link_behind image lift is site.from a.procedure site.next link.within link.flow in
      let parity = fetched_even m.unit m.code m.memory site.from.point.address site.from.word site.from.length (h.fetches site.from link.within) in
      let place = even_place site.from.point.address m.unit h.hart.units parity.0 in
      pc ∙ ap even (ra ∙ behind) ∙ even_sum site.from.point.address site.from.length place parity.1 ∙ sym behind

  spared_step : (start : List ℕ) (m n : Hart) (activations : List Activation) (maps : List (List ℕ)) → StandsAt image lift start m activations maps → Step m n
      → KeepsRulesBut lift spared m n activations → KeepsRules lift m n activations
  spared_step start m n activations [] h s k =
      absurd (none_stand lift start m.memory k.last k.earlier h.at m.registers (subst (λ (acts : List Activation). AllStand lift start m.memory acts [] h.at m.registers) k.are h.all))
  spared_step start m n activations (f ∷ maps) h s k = record {
    last = k.last;
    earlier = k.earlier;
    are = k.are;
    at = k.at;
    is_at = k.is_at;
    slots = k.slots;
    code = k.code;
    home = record {
      not_first = k.not_first;
      home = λ flow site called. either (spared 1)
          (λ e. home_spared start m n k.last k.earlier (f ∷ maps) site here
          (return_pc _ _ _ m n (turn image lift is start m n k.last k.earlier f maps here s leaves k.code) (returns flow)) called
          (spared_back start m k.last k.earlier (f ∷ maps) 1 here (returns flow) e))
          (λ e. k.home flow e site called);
    };
    frame = record {
      stack = λ flow. either (spared 2)
          (λ e. spared_back start m k.last k.earlier (f ∷ maps) 2 here (returns flow) e ∙ opening_other k.last.call k.last.registers 2 (λ same. cc)
          ∙ sym (last_stack lift start m.memory k.last k.earlier (f ∷ maps) here.at m.registers here.all))
          (k.stack flow);
      relied = λ flow r relied. either (spared r)
          (λ e. spared_back start m k.last k.earlier (f ∷ maps) r here (returns flow) e ∙ opening_other k.last.call k.last.registers r (saved_other r relied.saved))
          (λ e. k.relied flow r e relied);
    };
  }
    where
      here : StandsAt image lift start m (k.last ∷ k.earlier) (f ∷ maps)
      here = subst (λ (acts : List Activation). StandsAt image lift start m acts (f ∷ maps)) k.are h

      same_at : k.at ≡ here.at
      same_at = let e = sym k.is_at ∙ ap (point_of lift m) k.are ∙ here.is_at in cc e

      returns : k.at.flow ≡ Return → here.at.flow ≡ Return
      returns flow = ap (λ (c : CodePoint). c.flow) (sym same_at) ∙ flow

      leaves : LeavesSlots lift m n here.at k.last k.earlier
      leaves = subst (λ (c : CodePoint). LeavesSlots lift m n c k.last k.earlier) same_at k.slots

  run_to : (run : ℕ → Hart) (n j : ℕ) → j ≤ n → IsRunTo image run n → IsRunTo image run j
  run_to run n j low r = record { starts = r.starts; steps = λ i below. r.steps i (omega arith) }

  up_to : (run : ℕ → Hart) (n : ℕ) → IsRunTo image run n → KeepsDisciplineBut lift spared run n → (j : ℕ) → j ≤ n → KeepsDiscipline lift run j
  up_to run n r keeps zero low i below = absurd (omega arith)
  up_to run n r keeps (suc j) low i below =
      let before = up_to run n r keeps j (omega arith) in
      elim (cases_lt i j) [
        | inl earlier ↦ before i earlier
        | inr last ↦
            let same : j ≡ i = omega arith in
            subst (λ (k : ℕ). KeepsRules lift (run k) (run (suc k)) (activations_at lift run k)) same
            (spared_step (start_of lift (run 0)) (run j) (run (suc j)) (activations_at lift run j) (path_of lift run j)
            (moments image lift is run j (run_to run n j (omega arith) r) before j (omega arith)) (r.steps j (omega arith)) (keeps j (omega arith)))
      ]

  pub spare : (run : ℕ → Hart) (n : ℕ) → IsRunTo image run n → KeepsDisciplineBut lift spared run n → KeepsDiscipline lift run n
  spare run n r keeps = up_to run n r keeps n (omega arith)

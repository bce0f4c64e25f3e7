-- A run that keeps the discipline follows an open path.
use Rattle.std.proofs.Common.{◌≡◌, ℕ, zero, suc, ◌≤◌, List, [], ◌∷◌, Contains, Option, Some, refl, ap, sym, ◌∙◌, arith, subst}
use Rattle.elf_image.specs.Fetches.{fetch}
use Rattle.elf_image.specs.declared.image.Image.{Image}
use Rattle.elf_image.specs.declared.range.Range.{Range}
use Rattle.word_rows.specs.Rows.{IsState}
use Rattle.map_modules.specs.Matrices.{apply}
use Rattle.map_modules.proofs.Entries.{IsRow-vector}
use Rattle.affine_prog.specs.Assignments.{matrix_of}
use Rattle.flow_points.specs.Walks.{at_start, point, start}
use Rattle.flow_points.specs.declared.code_points.Point.{Point}
use Rattle.flow_points.specs.declared.code_points.CodePoint.{CodePoint}
use Rattle.flow_points.proofs.Cited.{from_map}
use Rattle.flow_points.proofs.PointLaws.{begins}
use Rattle.affine_lift.proofs.Cited.{owner_there}
use Rattle.rv_step.specs.Harts.{Hart}
use Rattle.rv_step.specs.Runs.{Starts}
use Rattle.rv_step.specs.Steps.{Step}
use Rattle.run_paths.specs.Lifts.{Lift, IsLiftOf, effect, node}
use Rattle.run_paths.specs.Activations.{Activation, Site, activations_at, begun, point_of, start_of, state_of, turned}
use Rattle.run_paths.specs.Discipline.{IsRunTo, KeepsDiscipline, KeepsRules, LeavesSlots, ReturnsToCaller, RestoresFrame}
use Rattle.run_paths.specs.Follows.{Follows, IsOpenPath, linked, mapped, opening_at, path_of, state_along}
use Rattle.run_paths.proofs.Acting.{apply-matrix_of}
use Rattle.run_paths.proofs.Fetching.{fetch_loaded, fetched_as, fetched_small}
use Rattle.run_paths.proofs.Finding.{found}
use Rattle.run_paths.proofs.Lifted.{has_code}
use Rattle.run_paths.proofs.Linking.{link_acts}
use Rattle.run_paths.proofs.Making.{FetchesAt, code_of}
use Rattle.run_paths.proofs.Moments.{StandsAt, last_stands, none_stand, words_of_hart}
use Rattle.run_paths.proofs.Pairs.{ready_if_entered}
use Rattle.run_paths.proofs.Running.{links_there, one_step}
use Rattle.run_paths.proofs.Standing.{AllStand}
use Rattle.run_paths.proofs.States.{start_has}
use Rattle.run_paths.proofs.Turning.{call_edge, opens}

module _ (image : Image) (lift : Lift) (is : IsLiftOf image lift) where
  -- the moment 0
  start_fetches : (m : Hart) → Starts image m → (c : CodePoint) → Contains lift.points.points c → FetchesAt m c
  start_fetches m starts c there =
      let at = (code_of image lift.points is.points_are c there).instr.fetched in
      subst (λ (unit : ℕ). fetch unit m.code m.memory c.point.address ≡ Some (fetched_as c.word c.length)) (sym starts.unit)
      (subst (λ (code : List Range). fetch image.unit code m.memory c.point.address ≡ Some (fetched_as c.word c.length)) (sym starts.code)
      (fetch_loaded image m.memory c.point.address c.word c.length (fetched_small image c.point.address c.word c.length at) starts.bytes at))

  begins_at : (m : Hart) → Starts image m
      → StandsAt image lift (start_of lift m) m (begun lift m ∷ []) (opening_at lift (begun lift m) m.memory ∷ [])
  begins_at m starts =
      let has = has_code image lift is in
      let place = begins lift.points has in
      let d = from_map (λ (c : CodePoint). c.point) lift.points.points (start lift.points.entry) place in
      let pc : m.pc ≡ lift.points.entry = starts.entry ∙ sym is.points_are.entry_is in
      let entry = is.points_are.entry_is in
      let words = words_of_hart m starts.hart in
      let is_state : IsState (start_of lift m) = record { row = IsRow-vector _; constant = (start_has image lift is m).constant } in
      record {
        at = d.0;
        is_at = found lift.points has d.0 (point lift.points.entry m.pc) d.1 (d.2 ∙ ap (point lift.points.entry) (sym pc));
        pc = pc ∙ sym (ap (λ (q : Point). q.address) d.2);
        all = (
          record { none = refl; entry = refl; stack = refl; registers = start_has image lift is m; words = words; state = is_state },
          opens image lift is (begun lift m) m.memory d.0 m.registers (start_of lift m) d.1 d.2
              (owner_there lift.points has (start lift.points.entry) place) (words.words 2) refl (start_has image lift is m)
              is_state,
        );
        ready = ready_if_entered image lift.points is.points_are is.accepted d.0 m.registers d.1 (at_start (d.2 ∙ ap start entry));
        hart = starts.hart;
        fetches = start_fetches m starts;
      }

  -- the rule for slots, told of the point where the machine stands
  pub slots_left : (s : List ℕ) (m n : Hart) (a : Activation) (earlier : List Activation) (maps : List (List ℕ))
      (h : StandsAt image lift s m (a ∷ earlier) maps) → KeepsRules lift m n (a ∷ earlier) → LeavesSlots lift m n h.at a earlier
  slots_left s m n a earlier maps h k =
      let one : k.last ≡ a = (let e = k.are in cc e) in
      let others : k.earlier ≡ earlier = (let e = k.are in cc e) in
      let at : k.at ≡ h.at = (let e = sym k.is_at ∙ h.is_at in cc e) in
      subst (λ (c : CodePoint). LeavesSlots lift m n c a earlier) at
      (subst (λ (b : Activation). LeavesSlots lift m n k.at b earlier) one
      (subst (λ (rest : List Activation). LeavesSlots lift m n k.at k.last rest) others k.slots))

  -- a step
  step_from : (s : List ℕ) (m n : Hart) (activations : List Activation) (maps : List (List ℕ)) → StandsAt image lift s m activations maps → Step m n
      → KeepsRules lift m n activations
      → StandsAt image lift s n (turned (point_of lift m activations) m activations) (mapped lift (point_of lift m activations) m n activations maps)
  step_from s m n [] maps h step k = absurd h.all
  step_from s m n (a ∷ earlier) [] h step k = absurd (none_stand lift s m.memory a earlier h.at m.registers h.all)
  step_from s m n (a ∷ earlier) (f ∷ maps) h step k =
      let one : k.last ≡ a = (let e = k.are in cc e) in
      let at : k.at ≡ h.at = (let e = sym k.is_at ∙ h.is_at in cc e) in
      let home : ReturnsToCaller n h.at a =
      subst (λ (c : CodePoint). ReturnsToCaller n c a) at (subst (λ (b : Activation). ReturnsToCaller n k.at b) one k.home) in
      let restores : RestoresFrame lift m h.at a =
      subst (λ (c : CodePoint). RestoresFrame lift m c a) at (subst (λ (b : Activation). RestoresFrame lift m k.at b) one k.frame) in
      subst (λ (o : Option CodePoint). StandsAt image lift s n (turned o m (a ∷ earlier)) (mapped lift o m n (a ∷ earlier) (f ∷ maps))) (sym h.is_at)
      (one_step image lift is s m n a earlier f maps h step (slots_left s m n a earlier (f ∷ maps) h k) k.code home restores)

  pub moments : (run : ℕ → Hart) (n : ℕ) → IsRunTo image run n → KeepsDiscipline lift run n → (i : ℕ) → i ≤ n
      → StandsAt image lift (start_of lift (run 0)) (run i) (activations_at lift run i) (path_of lift run i)
  moments run n r keeps zero low = begins_at (run 0) r.starts
  moments run n r keeps (suc i) low =
      step_from (start_of lift (run 0)) (run i) (run (suc i)) (activations_at lift run i) (path_of lift run i)
      (moments run n r keeps i (omega arith)) (r.steps i (omega arith)) (keeps i (omega arith))

  -- the path is open
  is_open : (s : List ℕ) (memory : ℕ → ℕ) (activations : List Activation) (maps : List (List ℕ)) (c : CodePoint) (regs : List ℕ)
      → AllStand lift s memory activations maps c regs → IsOpenPath lift activations maps c
  is_open s memory [] maps c regs h = absurd h
  is_open s memory (a ∷ []) [] c regs h = absurd h
  is_open s memory (a ∷ []) (f ∷ []) c regs h = (h.0.none, h.0.entry, h.1.path)
  is_open s memory (a ∷ []) (f ∷ g ∷ maps) c regs h = absurd h
  is_open s memory (a ∷ b ∷ earlier) [] c regs h = absurd h
  is_open s memory (a ∷ b ∷ earlier) (f ∷ []) c regs h = absurd (none_stand lift s memory b earlier h.0.from a.registers h.3)
  is_open s memory (a ∷ b ∷ earlier) (f ∷ g ∷ maps) c regs h =
      let within = (last_stands lift s memory b earlier g maps h.0.from a.registers h.3).stands.within in (
        h.2.path,
        (
          h.0,
          record {
            from = h.1.from;
            to = node lift (point h.0.from.point.proc_entry h.0.next);
            edge_is = call_edge image lift is h.0.from a.procedure h.0.next (point h.0.from.point.proc_entry h.0.next) h.1.flow refl within;
          },
          is_open s memory (b ∷ earlier) (g ∷ maps) h.0.from a.registers h.3,
        ),
      )

  along : (s : List ℕ) (memory : ℕ → ℕ) (a : Activation) (earlier : List Activation) (maps : List (List ℕ)) (c : CodePoint) (regs : List ℕ)
      → AllStand lift s memory (a ∷ earlier) maps c regs → state_along lift s (a ∷ earlier) maps ≡ state_of lift a regs memory
  along s memory a [] [] c regs h = absurd h
  along s memory a [] (f ∷ []) c regs h = ap (λ (o : Option Site). apply f (linked lift o s)) h.0.none ∙ h.1.state
  along s memory a [] (f ∷ g ∷ maps) c regs h = absurd h
  along s memory a (b ∷ earlier) [] c regs h = absurd h
  along s memory a (b ∷ earlier) (f ∷ []) c regs h = absurd (none_stand lift s memory b earlier h.0.from a.registers h.3)
  along s memory a (b ∷ earlier) (f ∷ g ∷ maps) c regs h =
      let within = (last_stands lift s memory b earlier g maps h.0.from a.registers h.3).stands.within in
      let links = links_there image lift is h.0.from a.procedure h.0.next within h.1.flow in
      let before = state_of lift b a.registers memory in
      ap (λ (o : Option Site). apply f (linked lift o (state_along lift s (b ∷ earlier) (g ∷ maps)))) h.1.from
      ∙ ap (λ (t : List ℕ). apply f (apply (matrix_of (effect lift h.0.from) []) t)) (along s memory b earlier (g ∷ maps) h.0.from a.registers h.3)
      ∙ ap (apply f) (apply-matrix_of (effect lift h.0.from) [] before (IsRow-vector _)
      ∙ link_acts image lift is h.0.from h.0.next b a.registers memory links h.1.words.count h.1.words.zero_is)
      ∙ h.2.state

  follows_at : (run : ℕ → Hart) (i : ℕ) (activations : List Activation) (maps : List (List ℕ)) → activations_at lift run i ≡ activations
      → path_of lift run i ≡ maps → StandsAt image lift (start_of lift (run 0)) (run i) activations maps → Follows lift run i
  follows_at run i [] maps are is_path h = absurd h.all
  follows_at run i (a ∷ earlier) maps are is_path h = record {
    at = h.at;
    is_at = ap (point_of lift (run i)) are ∙ h.is_at;
    path = subst (λ (activations : List Activation). IsOpenPath lift activations (path_of lift run i) h.at) (sym are)
        (subst (λ (fs : List (List ℕ)). IsOpenPath lift (a ∷ earlier) fs h.at) (sym is_path)
        (is_open (start_of lift (run 0)) (run i).memory (a ∷ earlier) maps h.at (run i).registers h.all));
    last = a;
    earlier = earlier;
    are = are;
    state = ap (λ (activations : List Activation). state_along lift (start_of lift (run 0)) activations (path_of lift run i)) are
        ∙ ap (state_along lift (start_of lift (run 0)) (a ∷ earlier)) is_path
        ∙ along (start_of lift (run 0)) (run i).memory a earlier maps h.at (run i).registers h.all;
  }

  pub follows : (run : ℕ → Hart) (n : ℕ) → IsRunTo image run n → KeepsDiscipline lift run n → (i : ℕ) → i ≤ n → Follows lift run i
  follows run n r keeps i low = follows_at run i (activations_at lift run i) (path_of lift run i) refl refl (moments run n r keeps i low)

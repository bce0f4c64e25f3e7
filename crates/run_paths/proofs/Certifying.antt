-- Certified registers at returns, and what they spare of the discipline.
use Rattle.std.proofs.Common.{◌≡◌, ℕ, ◌^◌, ◌<◌, ◌≤◌, List, [], ◌∷◌, slice_get, slice_index, Option, Some, inl, inr, refl, ap, sym, ◌∙◌, arith, subst}
use Rattle.std.proofs.lemmas.Bool.{cases_eq}
use Rattle.elf_image.specs.declared.image.Image.{Image}
use Rattle.word_rows.specs.Words.{word}
use Rattle.word_rows.specs.Rows.{IsState}
use Rattle.map_modules.proofs.Entries.{IsRow-vector}
use Rattle.flow_points.specs.declared.code_points.CodePoint.{CodePoint}
use Rattle.flow_points.specs.declared.code_points.Flow.TheVariants.{Return}
use Rattle.affine_prog.specs.Programs.{exit_of}
use Rattle.affine_prog.specs.LevelPaths.{LevelPath, step, step_map}
use Rattle.affine_prog.specs.Relations.{Certified}
use Rattle.report_text.specs.declared.names.Name.TheVariants.{Register}
use Rattle.rv_step.specs.Harts.{Hart}
use Rattle.rv_step.specs.Effects.{written}
use Rattle.run_paths.specs.Lifts.{Lift, IsLiftOf, node, number}
use Rattle.run_paths.specs.Activations.{Activation, Site, activations_at, point_at, point_of, start_of, state_of}
use Rattle.run_paths.specs.Discipline.{IsRunTo, KeepsDiscipline}
use Rattle.run_paths.specs.Follows.{path_of}
use Rattle.run_paths.specs.Relations.{RestoresCertified, opening_registers, registers_with}
use Rattle.run_paths.proofs.Acting.{apply-step}
use Rattle.run_paths.proofs.Following.{moments}
use Rattle.run_paths.proofs.Moments.{StandsAt, last_stands, none_stand, words_of_hart}
use Rattle.run_paths.proofs.Running.{link_behind}
use Rattle.run_paths.proofs.Standing.{AllStand, Stands}
use Rattle.run_paths.proofs.States.{AreWords, HasRegisters, IsState-state_of, below_16, state_has}
use Rattle.run_paths.proofs.Turning.{return_edge}
use Rattle.run_paths.proofs.Writing.{written_other, written_same}

unwrapped : (v w : ℕ) → v < 2 ^ 64 → w < 2 ^ 64 → word v ≡ word w → v ≡ w
unwrapped v w small fits e = omega arith

module _ (image : Image) (lift : Lift) (is : IsLiftOf image lift) where
  at_exit : (memory : ℕ → ℕ) (a : Activation) (f : List ℕ) (c : CodePoint) (regs entered : List ℕ) (k : ℕ) → c.flow ≡ Return → IsState entered
      → Stands lift memory a f c regs entered → Certified lift.program (number lift a.procedure) k
      → slice_index (state_of lift a regs memory) k ≡ slice_index entered k
  at_exit memory a f c regs entered k flow state s certified =
      let path : LevelPath lift.program (number lift a.procedure) (exit_of lift.program (number lift a.procedure)) (step_map [] [] f) =
      step (number lift a.procedure) (node lift c.point) (exit_of lift.program (number lift a.procedure)) [] [] f (step_map [] [] f) s.path
      (return_edge image lift is c a.procedure flow s.owner s.within) (record { width = refl; words = refl }) refl in
      sym (ap (λ (t : List ℕ). slice_index t k) (apply-step [] [] f entered (IsRow-vector _) ∙ s.state))
      ∙ certified (step_map [] [] f) entered path state

  register_kept : (memory : ℕ → ℕ) (a : Activation) (f : List ℕ) (c : CodePoint) (regs entered opening : List ℕ) (k r : ℕ) → c.flow ≡ Return → IsState entered
      → HasRegisters lift opening entered → AreWords regs → slice_index opening r < 2 ^ 64
      → Stands lift memory a f c regs entered → slice_get lift.names k ≡ Some (Register r) → Certified lift.program (number lift a.procedure) k
      → slice_index regs r ≡ slice_index opening r
  register_kept memory a f c regs entered opening k r flow state has words small s at certified =
      let low = below_16 image lift is k (Register r) at in
      unwrapped (slice_index regs r) (slice_index opening r) (words.words r) small
      (sym ((state_has image lift is a regs memory).words k r (omega arith) at) ∙ at_exit memory a f c regs entered k flow state s certified
      ∙ has.words k r (omega arith) at)

  linked_word : (regs : List ℕ) (to r : ℕ) → AreWords regs → to < 2 ^ 64 → slice_index (written regs 1 to) r < 2 ^ 64
  linked_word regs to r words small =
      elim (cases_eq r 1) [
        | inl same ↦
            subst (λ (q : ℕ). slice_index (written regs 1 to) q < 2 ^ 64) (sym same)
            (subst (λ (w : ℕ). w < 2 ^ 64) (sym (written_same regs 1 to (λ e. cc) (let n = words.count in omega arith))) small)
        | inr other ↦ subst (λ (w : ℕ). w < 2 ^ 64) (sym (written_other regs 1 to r other)) (words.words r)
      ]

  -- at a return, of the last activation
  pub restored : (start : List ℕ) (memory : ℕ → ℕ) (a : Activation) (earlier : List Activation) (maps : List (List ℕ)) (c : CodePoint) (regs : List ℕ) (k r : ℕ)
      → AllStand lift start memory (a ∷ earlier) maps c regs → c.flow ≡ Return → AreWords regs → slice_get lift.names k ≡ Some (Register r)
      → Certified lift.program (number lift a.procedure) k → slice_index regs r ≡ slice_index (opening_registers a) r
  restored start memory a [] [] c regs k r h flow words at certified = absurd h
  restored start memory a [] (f ∷ []) c regs k r h flow words at certified =
      register_kept memory a f c regs start a.registers k r flow h.0.state h.0.registers words (h.0.words.words r) h.1 at certified
      ∙ ap (λ (o : Option Site). slice_index (registers_with o a.registers) r) (sym h.0.none)
  restored start memory a [] (f ∷ g ∷ maps) c regs k r h flow words at certified = absurd h
  restored start memory a (b ∷ earlier) [] c regs k r h flow words at certified = absurd h
  restored start memory a (b ∷ earlier) (f ∷ []) c regs k r h flow words at certified = absurd (none_stand lift start memory b earlier h.0.from a.registers h.3)
  restored start memory a (b ∷ earlier) (f ∷ g ∷ maps) c regs k r h flow words at certified =
      let within = (last_stands lift start memory b earlier g maps h.0.from a.registers h.3).stands.within in
      let link = link_behind image lift is h.0.from a.procedure h.0.next within h.1.flow in
      let opening = written a.registers 1 h.0.next in
      register_kept memory a f c regs (state_of lift b opening memory) opening k r flow (IsState-state_of lift b opening memory)
      (state_has image lift is b opening memory) words (linked_word a.registers h.0.next r h.1.words (omega (arith, link))) h.2 at certified
      ∙ ap (λ (o : Option Site). slice_index (registers_with o a.registers) r) (sym h.1.from)

  restored_at : (run : ℕ → Hart) (i : ℕ) (activations : List Activation) (maps : List (List ℕ)) (at : CodePoint) → activations_at lift run i ≡ activations
      → point_of lift (run i) activations ≡ Some at → at.flow ≡ Return → StandsAt image lift (start_of lift (run 0)) (run i) activations maps
      → RestoresCertified lift run i
  restored_at run i [] maps at are is_at flow h = absurd h.all
  restored_at run i (a ∷ earlier) maps at are is_at flow h =
      let same : h.at ≡ at = (let e = sym h.is_at ∙ is_at in cc e) in
      record {
        last = a;
        earlier = earlier;
        are = are;
        restored = λ k r named certified.
            restored (start_of lift (run 0)) (run i).memory a earlier maps h.at (run i).registers k r h.all (ap (λ (c : CodePoint). c.flow) same ∙ flow)
            (words_of_hart (run i) h.hart) named certified;
      }

  pub restores : (run : ℕ → Hart) (n : ℕ) → IsRunTo image run n → KeepsDiscipline lift run n → (i : ℕ) → i ≤ n → (at : CodePoint)
      → point_at lift run i ≡ Some at → at.flow ≡ Return → RestoresCertified lift run i
  restores run n r keeps i low at is_at flow =
      restored_at run i (activations_at lift run i) (path_of lift run i) at refl is_at flow (moments image lift is run n r keeps i low)

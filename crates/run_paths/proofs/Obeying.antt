-- A run that follows a path obeys the relations that hold after it.
use Rattle.std.proofs.Common.{◌≡◌, ℕ, ◌<◌, ◌≤◌, ◌%◌, ◌^◌, false, List, [], ◌∷◌, slice_get, slice_index, Option, None, Some, refl, ap, sym, ◌∙◌, arith, subst}
use Rattle.std.specs.Option.{option_map_or}
use Rattle.std.proofs.lemmas.Bool.{ne_eqb}
use Rattle.elf_image.specs.declared.image.Image.{Image}
use Rattle.row_modules.specs.Positions.{has}
use Rattle.row_modules.proofs.Laws.{zero_outside_below}
use Rattle.map_modules.specs.Matrices.{apply}
use Rattle.map_modules.proofs.Entries.{IsRow-vector, get_or-vector}
use Rattle.affine_prog.specs.OpenPaths.{OpenPath, Start, enter, first}
use Rattle.affine_prog.specs.LevelPaths.{LevelPath}
use Rattle.flow_points.specs.Walks.{point}
use Rattle.flow_points.specs.declared.code_points.CodePoint.{CodePoint}
use Rattle.report_text.specs.declared.names.Name.{Name}
use Rattle.report_text.specs.declared.names.Name.TheVariants.{Register, Slot}
use Rattle.rv_step.specs.Harts.{Hart}
use Rattle.affine_lift.specs.Lifting.{is_tracked_register}
use Rattle.run_paths.specs.Lifts.{Lift, IsLiftOf, effect, node, number, registers}
use Rattle.run_paths.specs.Activations.{Activation, activations_at, point_of, register_word, start_of, state_of}
use Rattle.run_paths.specs.Discipline.{IsRunTo, KeepsDiscipline}
use Rattle.run_paths.specs.Follows.{path_of}
use Rattle.run_paths.specs.Relations.{ObeysRelations}
use Rattle.run_paths.proofs.Acting.{apply-matrix_of}
use Rattle.run_paths.proofs.Following.{moments}
use Rattle.run_paths.proofs.Lifted.{has_register}
use Rattle.run_paths.proofs.Linking.{link_acts, link_choice}
use Rattle.run_paths.proofs.Moments.{StandsAt, last_stands, none_stand}
use Rattle.run_paths.proofs.Running.{links_there}
use Rattle.run_paths.proofs.Standing.{AllStand}
use Rattle.run_paths.proofs.States.{start_has}
use Rattle.run_paths.proofs.Turning.{call_edge}

module _ (image : Image) (lift : Lift) (is : IsLiftOf image lift) where
  pub open_path : (s : List ℕ) (memory : ℕ → ℕ) (a : Activation) (earlier : List Activation) (maps : List (List ℕ)) (c : CodePoint) (regs : List ℕ)
      → AllStand lift s memory (a ∷ earlier) maps c regs → OpenPath lift.program s (node lift c.point) (state_of lift a regs memory)
  open_path s memory a [] [] c regs h = absurd h
  open_path s memory a [] (f ∷ []) c regs h =
      let begins : number lift a.procedure ≡ lift.program.start = ap (number lift) h.0.entry ∙ sym is.lifted.start in
      first (node lift c.point) f (state_of lift a regs memory) (subst (λ (p : ℕ). LevelPath lift.program p (node lift c.point) f) begins h.1.path) (sym h.1.state)
  open_path s memory a [] (f ∷ g ∷ maps) c regs h = absurd h
  open_path s memory a (b ∷ earlier) [] c regs h = absurd h
  open_path s memory a (b ∷ earlier) (f ∷ []) c regs h = absurd (none_stand lift s memory b earlier h.0.from a.registers h.3)
  open_path s memory a (b ∷ earlier) (f ∷ g ∷ maps) c regs h =
      let from = h.0.from in
      let within = (last_stands lift s memory b earlier g maps from a.registers h.3).stands.within in
      let links = links_there image lift is from a.procedure h.0.next within h.1.flow in
      let before = state_of lift b a.registers memory in
      enter (number lift a.procedure) (node lift from.point) (node lift (point from.point.proc_entry h.0.next)) (node lift c.point) (effect lift from) [] f before
      (state_of lift a regs memory) (open_path s memory b earlier (g ∷ maps) from a.registers h.3)
      (call_edge image lift is from a.procedure h.0.next (point from.point.proc_entry h.0.next) h.1.flow refl within)
      (link_choice lift from h.0.next links) h.2.path
      (sym (ap (apply f) (apply-matrix_of (effect lift from) [] before (IsRow-vector _)
      ∙ link_acts image lift is from h.0.next b a.registers memory links h.1.words.count h.1.words.zero_is) ∙ h.2.state))

  -- the start of a run is a start
  start_zero : (m : Hart) (k : ℕ) → k < 16 → has (registers lift) k ≡ false → slice_index (start_of lift m) k ≡ 0
  start_zero m k low out =
      get_or-vector _ k (omega arith) ∙ rw (ne_eqb k 16 (λ e. omega arith)) (by (slice_get lift.names k) (sym (has_register image lift is k) ∙ out))
    where
      by : (o : Option Name) → option_map_or is_tracked_register o false ≡ false → option_map_or (register_word m.registers) o 0 % 2 ^ 64 ≡ 0
      by None e = refl
      by (Some (Register r)) e = cc
      by (Some (Slot p below)) e = refl

  pub is_start : (m : Hart) → Start lift.program (start_of lift m)
  is_start m = record {
    state = record { row = IsRow-vector _; constant = (start_has image lift is m).constant };
    registers = zero_outside_below (registers lift) (start_of lift m) (IsRow-vector _).width (λ k low out. start_zero m k low out);
  }

  obeys_at : (run : ℕ → Hart) (i : ℕ) (activations : List Activation) (maps : List (List ℕ)) → activations_at lift run i ≡ activations
      → StandsAt image lift (start_of lift (run 0)) (run i) activations maps → ObeysRelations lift run i
  obeys_at run i [] maps are h = absurd h.all
  obeys_at run i (a ∷ earlier) maps are h = record {
    at = h.at;
    is_at = ap (point_of lift (run i)) are ∙ h.is_at;
    last = a;
    earlier = earlier;
    are = are;
    zero = λ row holds. holds.zero (start_of lift (run 0)) (state_of lift a (run i).registers (run i).memory) (is_start (run 0))
        (open_path (start_of lift (run 0)) (run i).memory a earlier maps h.at (run i).registers h.all);
  }

  pub obeys : (run : ℕ → Hart) (n : ℕ) → IsRunTo image run n → KeepsDiscipline lift run n → (i : ℕ) → i ≤ n → ObeysRelations lift run i
  obeys run n r keeps i low = obeys_at run i (activations_at lift run i) (path_of lift run i) refl (moments image lift is run n r keeps i low)

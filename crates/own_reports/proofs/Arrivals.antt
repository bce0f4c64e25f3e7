-- A run that keeps the discipline is at a point that the program reaches.
use Rattle.std.proofs.Common.{◌≡◌, ◌≢◌, ℕ, List, [], ◌∷◌, replicate, slice_get, Some, refl, ap, sym, ◌∙◌, subst}
use Rattle.elf_image.specs.declared.image.Image.{Image}
use Rattle.map_modules.specs.Matrices.{apply}
use Rattle.word_rows.proofs.Laws.{IsRow-zeros}
use Rattle.affine_prog.specs.Assignments.{matrix_of, unknown_count}
use Rattle.affine_prog.specs.LevelPaths.{LevelPath}
use Rattle.affine_prog.specs.OpenPaths.{OpenPath, enter, first}
use Rattle.affine_prog.specs.Relations.{IsReached}
use Rattle.flow_points.specs.declared.code_points.CodePoint.{CodePoint}
use Rattle.report_text.specs.declared.points.PointRows.{PointRows}
use Rattle.report_text.specs.declared.points.PointState.TheVariants.{Unreached}
use Rattle.report_text.specs.declared.reports.Report.{Report}
use Rattle.rv_step.specs.Harts.{Hart}
use Rattle.run_paths.specs.Lifts.{Lift, IsLiftOf, effect, node, number}
use Rattle.run_paths.specs.Activations.{Activation, activations_at, start_of}
use Rattle.run_paths.specs.Follows.{Follows, IsOpenPath, path_of}
use Rattle.run_paths.proofs.Obeying.{is_start}
use Rattle.analyser_core.specs.MachineRuns.{TellsOfRuns}
use Rattle.analyser_core.specs.Reports.{TellsState}
use Rattle.analyser_core.specs.declared.cert_line.CertLine.{CertLine}
use Rattle.own_reports.specs.Reached.{IsAtRows, ReachesRows}
use Rattle.own_reports.proofs.Truth.{tells_at}

module _ (image : Image) (lift : Lift) (is : IsLiftOf image lift) (start : List ℕ) where
  -- an open path of activations ends at a node where the program has one
  pub open_end : (activations : List Activation) (maps : List (List ℕ)) (c : CodePoint) → IsOpenPath lift activations maps c
      → (state : List ℕ) × OpenPath lift.program start (node lift c.point) state
  open_end [] maps c h = absurd h
  open_end (a ∷ []) [] c h = absurd h
  open_end (a ∷ []) (f ∷ []) c h =
      let begins : number lift a.procedure ≡ lift.program.start = ap (number lift) h.1 ∙ sym is.lifted.start in (
        apply f start,
        first (node lift c.point) f (apply f start)
            (subst (λ (p : ℕ). LevelPath lift.program p (node lift c.point) f) begins h.2) refl,
      )
  open_end (a ∷ []) (f ∷ g ∷ maps) c h = absurd h
  open_end (a ∷ b ∷ earlier) [] c h = absurd h
  open_end (a ∷ b ∷ earlier) (f ∷ maps) c h =
      let from = h.1.0.from in
      let call = h.1.1 in
      let before = effect lift from in
      let words = replicate (unknown_count before) 0 in
      let caller = open_end (b ∷ earlier) maps from h.1.2 in
      let after = apply f (apply (matrix_of before words) caller.0) in (
        after,
        enter (number lift a.procedure) (node lift from.point) call.to (node lift c.point) before words f caller.0 after caller.1
            call.edge_is (IsRow-zeros (unknown_count before)) h.0 refl,
      )

module _ (bytes list : List ℕ) (report : Report) (certs : List CertLine) (tells : TellsOfRuns bytes list report certs) where
  reached : (run : ℕ → Hart) (i : ℕ) → (f : Follows tells.lift run i) → IsReached tells.lift.program (node tells.lift f.at.point)
  reached run i f =
      let is = tells.of_lift.is_lift in
      let start = start_of tells.lift (run 0) in
      let path = open_end tells.image tells.lift is start (activations_at tells.lift run i) (path_of tells.lift run i) f.at f.path in
      record { start = start; state = path.0; is_start = is_start tells.image tells.lift is (run 0); path = path.1 }

  at_rows : (run : ℕ → Hart) (i : ℕ) → Follows tells.lift run i → IsAtRows tells.lift report run i
  at_rows run i f = record { at = f.at; is_at = f.is_at; reached = reached run i f; told = told }
    where
      told : (u : ℕ) (point : PointRows) → slice_get report.points u ≡ Some point → point.proc_entry ≡ f.at.point.proc_entry
          → point.address ≡ f.at.point.address → point.state ≢ Unreached
      told u point there procedure address none =
          subst (TellsState tells.lift.program (node tells.lift f.at.point)) none
          (tells_at tells.image tells.lift report certs tells.of_lift u point f.at there procedure address) (reached run i f)

  pub reaches_rows : ReachesRows bytes list report certs
  reaches_rows = record {
    image = tells.image;
    lift = tells.lift;
    accepted = tells.accepted;
    of_lift = tells.of_lift;
    runs = λ spared run n back r keeps i low. at_rows run i (tells.runs spared run n back r keeps i low).follows;
  }

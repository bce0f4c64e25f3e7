-- What a report says of runs of the machine.
use Rattle.std.proofs.Common.{◌≡◌, ◌≢◌, ℕ, ◌≤◌, Bool, List, All, AllPairs, length, slice_get, get_or, Some, inl, inr, refl, sym, ◌∙◌, arith, subst}
use Rattle.std.proofs.lemmas.Bool.{cases_lt}
use Rattle.std.proofs.lemmas.List.Elements.{All-contains_itself}
use Rattle.std.proofs.lemmas.Option.{get_or_from_slice_get, slice_get-get_or, slice_get_within}
use Rattle.word_rows.specs.Rows.{dot}
use Rattle.elf_image.specs.declared.image.Image.{Image}
use Rattle.flow_points.proofs.SamePoint.{one_point}
use Rattle.affine_prog.specs.Relations.{Holds}
use Rattle.affine_lift.proofs.Cited.{node_is}
use Rattle.report_text.specs.Names.{IsName}
use Rattle.report_text.specs.declared.names.Name.{Name}
use Rattle.report_text.specs.declared.points.PointRows.{PointRows}
use Rattle.report_text.specs.declared.points.PointState.TheVariants.{Rows}
use Rattle.report_text.specs.declared.reports.Report.{Report}
use Rattle.rv_step.specs.Harts.{Hart}
use Rattle.run_paths.specs.Lifts.{AreDistinct, Lift, node}
use Rattle.run_paths.specs.Activations.{state_of}
use Rattle.run_paths.specs.Discipline.{IsRunTo, KeepsDiscipline}
use Rattle.run_paths.specs.Relations.{KeepsDisciplineBut, ObeysRelations}
use Rattle.run_paths.proofs.Certifying.{restores}
use Rattle.run_paths.proofs.Following.{follows}
use Rattle.run_paths.proofs.Lifted.{has_code}
use Rattle.run_paths.proofs.Obeying.{obeys}
use Rattle.run_paths.proofs.Sparing.{spare}
use Rattle.analyser_core.specs.MachineRuns.{AreGivenBack, IsReportOfLift, IsToldAt, RowsAreZero, TellsOfRuns}
use Rattle.analyser_core.specs.Reports.{IsReportOver, TellsState}
use Rattle.analyser_core.specs.declared.cert_line.CertLine.{CertLine}
use Rattle.analyser_core.proofs.GivenBack.{spared_by_words}

-- names of which no two are equal stand at one place each
one_place : (names : List Name) → AllPairs (λ a b. a ≢ b) names → AreDistinct names
one_place names apart i j name first second =
    let below = slice_get_within names i name first in
    let within = slice_get_within names j name second in
    let here = get_or_from_slice_get names i name name first in
    let there = get_or_from_slice_get names j name name second in
    elim (cases_lt i j) [
      | inl less ↦ absurd (apart i j name less within (here ∙ sym there))
      | inr least ↦ elim (cases_lt j i) [
        | inl more ↦ absurd (apart j i name more below (there ∙ sym here))
        | inr most ↦ omega arith
      ]
    ]

module _ (image : Image) (lift : Lift) (report : Report) (certs : List CertLine) (of_lift : IsReportOfLift image lift report certs) where
  rows_zero : (run : ℕ → Hart) (i : ℕ) → ObeysRelations lift run i → RowsAreZero lift report run i
  rows_zero run i obeyed = record { at = obeyed.at; is_at = obeyed.is_at; last = obeyed.last; earlier = obeyed.earlier; are = obeyed.are; zero = by }
    where
      by : (u : ℕ) (point : PointRows) (rows : List (List ℕ)) → slice_get report.points u ≡ Some point
          → point.proc_entry ≡ obeyed.at.point.proc_entry → point.address ≡ obeyed.at.point.address → point.state ≡ Rows rows
          → All (λ row. dot row (state_of lift obeyed.last (run i).registers (run i).memory) ≡ 0) rows
      by u point rows there procedure address state k d below =
          let within = slice_get_within report.points u point there in
          let count = of_lift.is_report.count in
          let code = get_or lift.points.points u obeyed.at in
          let at : slice_get lift.points.points u ≡ Some code = slice_get-get_or lift.points.points u obeyed.at (omega arith) in
          let told = of_lift.is_report.told u code point at there in
          let same : code.point ≡ obeyed.at.point =
          one_point code.point obeyed.at.point (sym told.procedure ∙ procedure) (sym told.address ∙ address) in
          let number : node lift obeyed.at.point ≡ u = node_is lift.points u code obeyed.at.point (has_code image lift of_lift.is_lift) at same in
          let rows_hold = subst (TellsState lift.program u) state told.state in
          obeyed.zero (get_or rows k d) (subst (λ (v : ℕ). Holds lift.program v (get_or rows k d)) (sym number) (rows_hold.1.inside (get_or rows k d) (All-contains_itself rows k d below)))

  told_whole : (run : ℕ → Hart) (n : ℕ) → IsRunTo image run n → KeepsDiscipline lift run n → (i : ℕ) → i ≤ n → IsToldAt lift report run i
  told_whole run n r keeps i low = record {
    follows = follows image lift of_lift.is_lift run n r keeps i low;
    rows = rows_zero run i (obeys image lift of_lift.is_lift run n r keeps i low);
    restored = λ at is_at flow. restores image lift of_lift.is_lift run n r keeps i low at is_at flow;
  }

  pub told : (spared : ℕ → Bool) (run : ℕ → Hart) (n : ℕ) → AreGivenBack report spared → IsRunTo image run n
      → KeepsDisciplineBut lift spared run n → (i : ℕ) → i ≤ n → IsToldAt lift report run i
  told spared run n back r keeps =
      told_whole run n r (spare image lift of_lift.is_lift spared (spared_by_words image lift report certs of_lift spared back) run n r keeps)

pub tells_of_runs : (bytes list : List ℕ) (report : Report) (certs : List CertLine) → IsReportOver bytes list report certs → TellsOfRuns bytes list report certs
tells_of_runs bytes list report certs over =
    let accepted = over.lifted.accepted in
    let lift : Lift = record { points = over.points; names = over.names; offset = over.lifted.lifted.offset; program = over.program } in
    let of_lift : IsReportOfLift accepted.image lift report certs = record {
      is_lift = record {
        accepted = accepted.accepted.has_points.accepted;
        points_are = accepted.accepted.has_points.are;
        few = subst (λ (names : List Name). length names ≤ 16) over.is_report.names_are report.tracked.few;
        allowed = subst (λ (names : List Name). All IsName names) over.is_report.names_are report.tracked.allowed;
        distinct = one_place over.names accepted.accepted.is_tracked.names_are.apart;
        lifted = over.lifted.lifted;
        offset_is = refl;
      };
      is_report = over.is_report;
    } in
    record {
      image = accepted.image;
      lift = lift;
      accepted = accepted.accepted;
      of_lift = of_lift;
      runs = told accepted.image lift report certs of_lift;
    }

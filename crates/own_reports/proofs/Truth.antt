-- The report of a lift is a true one.
use Rattle.std.proofs.Common.{◌≡◌, ℕ, ◌&&◌, Bool, true, false, List, Contains, get_or, find, slice_get, Option, None, Some, option_map, eqb-true, refl, sym, ◌∙◌, arith, subst}
use Rattle.std.proofs.lemmas.List.Elements.{All-contains_itself}
use Rattle.std.proofs.lemmas.Option.{slice_get-get_or, slice_get_within}
use Rattle.elf_image.specs.declared.image.Image.{Image}
use Rattle.elf_image.proofs.Found.{found_has, found_passes}
use Rattle.flow_points.specs.declared.code_points.CodePoint.{CodePoint}
use Rattle.flow_points.specs.declared.code_points.Point.{Point}
use Rattle.flow_points.proofs.SamePoint.{one_point}
use Rattle.affine_lift.proofs.Cited.{node_is, number_at}
use Rattle.report_text.specs.declared.points.PointRows.{PointRows}
use Rattle.report_text.specs.declared.points.PointState.{PointState}
use Rattle.report_text.specs.declared.points.PointState.TheVariants.{Rows, Unreached}
use Rattle.report_text.specs.declared.reports.Report.{Report}
use Rattle.run_paths.specs.Lifts.{Lift, node}
use Rattle.run_paths.proofs.Lifted.{has_code}
use Rattle.run_watch.specs.Runs.{is_told_of, told_at}
use Rattle.run_verdicts.specs.Relations.{IsTrueReport}
use Rattle.analyser_core.specs.MachineRuns.{IsReportOfLift}
use Rattle.analyser_core.specs.Reports.{TellsState}
use Rattle.analyser_core.specs.declared.cert_line.CertLine.{CertLine}

both : (a b : Bool) → (a && b) ≡ true → (a ≡ true) × (b ≡ true)
both true true e = (refl, refl)
both true false e = absurd (cc)
both false b e = absurd (cc)

placed : (p : Point) (told : PointRows) → is_told_of p told ≡ true → (told.proc_entry ≡ p.proc_entry) × (told.address ≡ p.address)
placed p told passes = let h = both _ _ passes in (eqb-true _ _ h.0, eqb-true _ _ h.1)

module _ (image : Image) (lift : Lift) (report : Report) (certs : List CertLine) (of_lift : IsReportOfLift image lift report certs) where
  -- what a point of the report tells, it tells of the node of its code
  pub tells_at : (u : ℕ) (point : PointRows) (c : CodePoint) → slice_get report.points u ≡ Some point
      → point.proc_entry ≡ c.point.proc_entry → point.address ≡ c.point.address
      → TellsState lift.program (node lift c.point) point.state
  tells_at u point c there procedure address =
      let within = slice_get_within report.points u point there in
      let count = of_lift.is_report.count in
      let code = get_or lift.points.points u c in
      let at : slice_get lift.points.points u ≡ Some code = slice_get-get_or lift.points.points u c (omega arith) in
      let told = of_lift.is_report.told u code point at there in
      let same : code.point ≡ c.point = one_point code.point c.point (sym told.procedure ∙ procedure) (sym told.address ∙ address) in
      let number : node lift c.point ≡ u = node_is lift.points u code c.point (has_code image lift of_lift.is_lift) at same in
      subst (λ (v : ℕ). TellsState lift.program v point.state) (sym number) told.state

  state_at : (c : CodePoint) (state : PointState) → told_at report.points c.point ≡ Some state
      → TellsState lift.program (node lift c.point) state
  state_at c state is = by (find (is_told_of c.point) report.points) refl is
    where
      by : (o : Option PointRows) → find (is_told_of c.point) report.points ≡ o → option_map (λ t. t.state) o ≡ Some state
          → TellsState lift.program (node lift c.point) state
      by None none e = absurd (cc)
      by (Some point) found e =
          let place = placed c.point point (found_passes (is_told_of c.point) report.points point found) in
          let listed = found_has (Contains report.points) (is_told_of c.point) report.points point
          (All-contains_itself report.points) found in
          let at = number_at report.points point listed in
          let same : point.state ≡ state = cc in
          subst (TellsState lift.program (node lift c.point)) same (tells_at at.0 point c at.1 place.0 place.1)

  pub true_report : IsTrueReport lift report.points
  true_report = record {
    rows = λ c rows there is k d below.
        (state_at c (Rows rows) is).1.inside (get_or rows k d) (All-contains_itself rows k d below);
    unreached = λ c there is reached. state_at c Unreached is reached;
  }

-- A file and a list have one report.
use Rattle.std.proofs.Common.{◌≡◌, ℕ, List, sym, subst}
use Rattle.affine_prog.specs.declared.Program.{Program}
use Rattle.flow_points.specs.PointLists.{FlowPoints}
use Rattle.report_text.specs.declared.names.Name.{Name}
use Rattle.report_text.specs.declared.reports.Report.{Report}
use Rattle.run_paths.specs.Lifts.{AreDistinct}
use Rattle.run_paths.proofs.Lifted.{points_have_code}
use Rattle.analyser_core.specs.MachineRuns.{TellsOfRuns}
use Rattle.analyser_core.specs.Reports.{IsReportOf, IsReportOver}
use Rattle.analyser_core.specs.declared.cert_line.CertLine.{CertLine}
use Rattle.own_reports.proofs.Apart.{ReadInOneWay, RefusedForMemory, same_names, same_points, same_program}
use Rattle.own_reports.proofs.OneReport.{same_lines, same_reports}

module _ (read : ReadInOneWay) (for_memory : RefusedForMemory) (bytes list : List ℕ) (report other : Report) (certs lines : List CertLine)
    (tells : TellsOfRuns bytes list report certs) (over : IsReportOver bytes list report certs)
    (too : IsReportOver bytes list other lines) where
  distinct : AreDistinct over.names
  distinct =
      subst AreDistinct (same_names read for_memory bytes list tells.lift.points over.points tells.lift.names over.names
      (record { image = tells.image; accepted = tells.accepted }) over.lifted.accepted) tells.of_lift.is_lift.distinct

  -- the other report is of the same program
  there : IsReportOf over.program over.points over.names other lines
  there =
      let h = over.lifted.accepted in
      let k = too.lifted.accepted in
      let points = same_points bytes list over.points over.names h k.image too.points k.accepted.is_image k.accepted.has_points.are in
      let names = same_names read for_memory bytes list over.points too.points over.names too.names h k in
      let program = same_program read for_memory bytes list over.points too.points over.names too.names over.program too.program h k
      over.lifted.lifted too.lifted.lifted in
      subst (λ (f : Program). IsReportOf f over.points over.names other lines) (sym program)
      (subst (λ (p : FlowPoints). IsReportOf too.program p over.names other lines) (sym points)
      (subst (λ (n : List Name). IsReportOf too.program too.points n other lines) (sym names) too.is_report))

  pub one_report : (report ≡ other) × (certs ≡ lines)
  one_report =
      let h = over.lifted.accepted in
      let has = points_have_code h.image over.points h.accepted.has_points.are in (
        same_reports over.program over.points over.names has distinct report other certs lines over.is_report there,
        same_lines over.program over.points over.names has distinct report other certs lines over.is_report there,
      )

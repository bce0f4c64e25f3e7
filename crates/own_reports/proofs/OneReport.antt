-- A program, its points and names have one report.
use Rattle.std.proofs.Common.{◌≡◌, ◌<◌, ℕ, List, length, All, get_or, map, slice_get, Some, ap, sym, ◌∙◌, arith, subst}
use Rattle.std.proofs.Math.Logic.{∥∥₁_elim}
use Rattle.std.proofs.lemmas.List.Elements.{All-contains}
use Rattle.std.proofs.lemmas.Option.{slice_get-get_or, slice_get_within}
use Rattle.flow_points.proofs.Ascent.{some_item}
use Rattle.flow_points.proofs.Cited.{item_there}
use Rattle.flow_points.specs.PointLists.{FlowPoints, HasCode}
use Rattle.affine_prog.specs.declared.Program.{Program}
use Rattle.report_text.specs.Reports.{AreRowsAt, AreRowsAtState}
use Rattle.report_text.specs.declared.names.Name.{Name}
use Rattle.report_text.specs.declared.points.PointRows.{PointRows}
use Rattle.report_text.specs.declared.reports.Report.{Report}
use Rattle.report_read.proofs.Sets.{report_set, same_report, same_tracked}
use Rattle.run_paths.specs.Lifts.{AreDistinct}
use Rattle.analyser_core.specs.Certified.{told_in}
use Rattle.analyser_core.specs.Reports.{IsReportOf}
use Rattle.analyser_core.specs.declared.cert_line.CertLine.{CertLine}
use Rattle.own_reports.proofs.OneCerts.{all_told, one_lines}
use Rattle.own_reports.proofs.OneStates.{one_by_index, one_state}

module _ (program : Program) (points : FlowPoints) (names : List Name) (has : HasCode points) (distinct : AreDistinct names)
    (a b : Report) (cs ds : List CertLine) (h : IsReportOf program points names a cs) (k : IsReportOf program points names b ds) where
  pub same_lines : cs ≡ ds
  same_lines =
      one_lines program points names has distinct cs ds h.certified.each k.certified.each (h.certified.sites ∙ sym k.certified.sites)

  one_point : All (AreRowsAt a.tracked.names) a.points → All (AreRowsAt b.tracked.names) b.points → (u : ℕ) (x y : PointRows)
      → slice_get a.points u ≡ Some x → slice_get b.points u ≡ Some y → x ≡ y
  one_point r s u x y at there =
      let within = slice_get_within a.points u x at in
      let count = h.count in
      let inside : u < length points.points = omega (arith, within, count) in
      let code = get_or points.points u (some_item points.points u inside) in
      let here = slice_get-get_or points.points u (some_item points.points u inside) inside in
      let first = h.told u code x here at in
      let second = k.told u code y here there in
      let procedure : x.proc_entry ≡ y.proc_entry = first.procedure ∙ sym second.procedure in
      let address : x.address ≡ y.address = first.address ∙ sym second.address in
      let rows = All-contains (AreRowsAt a.tracked.names) a.points x r (item_there a.points u x at) in
      let others = All-contains (AreRowsAt b.tracked.names) b.points y s (item_there b.points u y there) in
      let state = one_state program u x.proc_entry a.tracked.names b.tracked.names x.state y.state first.state second.state rows
      (subst (λ (p : ℕ). AreRowsAtState b.tracked.names p y.state) (sym procedure) others) in
      λ i. record { proc_entry = procedure i; address = address i; state = state i }

  pub same_reports : a ≡ b
  same_reports =
      ∥∥₁_elim a.reduced (report_set a b) (λ r. ∥∥₁_elim b.reduced (report_set a b) (λ s.
      same_report a b (h.version_is ∙ sym k.version_is) (same_tracked a.tracked b.tracked (h.names_are ∙ sym k.names_are))
      (all_told a.certs b.certs (h.words ∙ ap (map told_in) same_lines ∙ sym k.words))
      (one_by_index a.points b.points (h.count ∙ sym k.count) (one_point r s))))

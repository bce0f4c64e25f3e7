-- The report of a lift is of words, and tells of its file alone.
use Rattle.std.proofs.Common.{◌≡◌, ℕ, ◌<◌, ◌^◌, List, length, All, Contains, get_or, sym, arith, subst}
use Rattle.std.proofs.lemmas.List.Elements.{All-weaker}
use Rattle.std.proofs.lemmas.Option.{slice_get-get_or}
use Rattle.elf_image.specs.declared.image.Image.{Image}
use Rattle.flow_points.specs.PointLists.{ArePointsOf, FlowPoints, places_of}
use Rattle.flow_points.specs.Walks.{point}
use Rattle.flow_points.specs.declared.code_points.CodePoint.{CodePoint}
use Rattle.flow_points.proofs.Cited.{Contains-map, item_there}
use Rattle.flow_points.proofs.Ascent.{some_item}
use Rattle.flow_points.proofs.SamePoint.{one_point}
use Rattle.affine_lift.specs.Tracking.{IsIn}
use Rattle.affine_lift.proofs.Cited.{owner_there}
use Rattle.affine_prog.specs.declared.Program.{Program}
use Rattle.report_lines.specs.NameTexts.{IsAddressed}
use Rattle.report_read.specs.Written.{IsOfWords}
use Rattle.report_text.specs.declared.names.Name.{Name}
use Rattle.report_text.specs.declared.names.Name.TheVariants.{Register, Slot}
use Rattle.report_text.specs.declared.points.PointRows.{PointRows}
use Rattle.report_text.specs.declared.reports.Report.{Report}
use Rattle.run_answers.specs.Laws.{IsNameOf, IsOfFile}
use Rattle.run_paths.proofs.Lifted.{points_have_code}
use Rattle.analyser_core.specs.Reports.{IsReportOf}
use Rattle.analyser_core.specs.declared.cert_line.CertLine.{CertLine}
use Rattle.own_reports.proofs.AddressesFit.{address_fits, procedure_fits}

addressed : (procedures : List ℕ) (name : Name) → ((p : ℕ) → Contains procedures p → p < 2 ^ 64) → IsIn procedures name → IsAddressed name
addressed procedures (Register r) fits within = tt
addressed procedures (Slot p below) fits within = fits p within

named : (procedures : List ℕ) (name : Name) → IsIn procedures name → IsNameOf procedures name
named procedures (Register r) within = tt
named procedures (Slot p below) within = within

-- a point of the report is one of the code
record IsListed (points : FlowPoints) (told : PointRows) : Type 0 where
  code : CodePoint
  there : Contains points.points code
  procedure : told.proc_entry ≡ code.point.proc_entry
  address : told.address ≡ code.point.address

module _ (image : Image) (points : FlowPoints) (names : List Name) (program : Program) (report : Report) (certs : List CertLine)
    (are : ArePointsOf image points) (is : IsReportOf program points names report certs) (within : All (IsIn points.procedures) names) where
  listed : (k : ℕ) (d : PointRows) → k < length report.points → IsListed points (get_or report.points k d)
  listed k d below =
      let count = is.count in
      let at = slice_get-get_or report.points k d below in
      let inside : k < length points.points = omega (arith, count, below) in
      let code = get_or points.points k (some_item points.points k inside) in
      let there = slice_get-get_or points.points k (some_item points.points k inside) inside in
      let told = is.told k code (get_or report.points k d) there at in
      record { code = code; there = item_there points.points k code there; procedure = told.procedure; address = told.address }

  pub of_words : IsOfWords report
  of_words = record {
    names = subst (All IsAddressed) (sym is.names_are)
        (All-weaker (IsIn points.procedures) IsAddressed
        (λ name h. addressed points.procedures name (procedure_fits image points are) h) names within);
    procedures = λ k d below.
        let c = listed k d below in
        subst (λ (a : ℕ). a < 2 ^ 64) (sym c.procedure)
        (procedure_fits image points are c.code.point.proc_entry
        (owner_there points (points_have_code image points are) c.code.point
        (Contains-map (λ (x : CodePoint). x.point) points.points c.code c.there)));
    addresses = λ k d below.
        let c = listed k d below in
        subst (λ (a : ℕ). a < 2 ^ 64) (sym c.address) (address_fits image points are c.code c.there);
  }

  pub of_file : IsOfFile points report
  of_file = record {
    names = subst (All (IsNameOf points.procedures)) (sym is.names_are)
        (All-weaker (IsIn points.procedures) (IsNameOf points.procedures) (named points.procedures) names within);
    places = λ k d below.
        let c = listed k d below in
        let q = get_or report.points k d in
        subst (Contains (places_of points.points))
        (one_point c.code.point (point q.proc_entry q.address) (sym c.procedure) (sym c.address))
        (Contains-map (λ (x : CodePoint). x.point) points.points c.code c.there);
  }

-- Registers that a report's words give back are certified in each procedure.
use Rattle.std.proofs.Common.{◌≡◌, ◌≢◌, ◌<◌, ℕ, Bool, true, List, Contains, length, get_or, slice_get, Some, inl, inr, sym, ap, ◌∙◌, arith, subst}
use Rattle.std.proofs.lemmas.List.Elements.{All-contains, Contains-get_or}
use Rattle.std.proofs.lemmas.Option.{slice_get-get_or, slice_get_within}
use Rattle.abi_cert.specs.Certificates.{IsCertOf}
use Rattle.abi_cert.specs.declared.cert.Cert.{Cert}
use Rattle.abi_cert.specs.declared.cert.Cert.TheVariants as kinds
use Rattle.affine_lift.proofs.Cited.{number_at, number_is, owner_there}
use Rattle.affine_prog.specs.Relations.{Certified}
use Rattle.affine_prog.specs.declared.Program.{Program}
use Rattle.elf_image.specs.declared.image.Image.{Image}
use Rattle.flow_points.proofs.Cited.{from_map}
use Rattle.flow_points.proofs.PointLaws.{begins, only_procedures}
use Rattle.flow_points.specs.PointLists.{HasCode}
use Rattle.flow_points.specs.Walks.{start}
use Rattle.flow_points.specs.declared.code_points.CodePoint.{CodePoint}
use Rattle.report_text.specs.declared.certs.CertWord.{CertWord}
use Rattle.report_text.specs.declared.certs.CertWord.TheVariants.{Broken, Granted, Never}
use Rattle.report_text.specs.declared.names.Name.TheVariants.{Register}
use Rattle.report_text.specs.declared.points.PointRows.{PointRows}
use Rattle.report_text.specs.declared.points.PointState.TheVariants.{Unreached}
use Rattle.report_text.specs.declared.reports.Report.{Report}
use Rattle.run_paths.specs.Lifts.{Lift, number}
use Rattle.run_paths.specs.Relations.{IsSpared}
use Rattle.run_paths.proofs.Lifted.{has_code}
use Rattle.analyser_core.specs.Certified.{IsCertLineOf, told_in, word_of}
use Rattle.analyser_core.specs.MachineRuns.{AreGivenBack, HasCertWord, IsGivenBack, IsReportOfLift}
use Rattle.analyser_core.specs.declared.cert_line.CertLine.{CertLine}

nowhere : PointRows
nowhere = record { proc_entry = 0; address = 0; state = Unreached }

-- what a granted or never certificate says: the register is certified
back_certified : (program : Program) (p k : ℕ) (cert : Cert) (word : CertWord) → IsCertOf program p k cert → word_of cert ≡ word
    → word ≢ Broken → Certified program p k
back_certified program p k kinds.Granted word is told back = is.1
back_certified program p k kinds.Broken word is told back = absurd (back (sym told))
back_certified program p k kinds.NeverReturns word is told back =
    λ m v path state. absurd (is (record { map = m; path = path }))

module _ (image : Image) (lift : Lift) (report : Report) (certs : List CertLine) (of_lift : IsReportOfLift image lift report certs) where
  has : HasCode lift.points
  has = has_code image lift of_lift.is_lift

  -- where a register stands, with its certificate there
  record Position (p r : ℕ) : Type 0 where
    pub position : ℕ
    pub tracked : slice_get lift.names position ≡ Some (Register r)
    pub certified : Certified lift.program (number lift p) position

  told_position : (p r : ℕ) (word : CertWord) → HasCertWord report p r word → word ≢ Broken → Position p r
  told_position p r word there back =
      let line = from_map told_in certs (p, r, word) (subst (λ (all : List (ℕ × ℕ × CertWord)). Contains all (p, r, word)) of_lift.is_report.words there) in
      let is = All-contains (IsCertLineOf lift.program lift.points lift.names) certs line.0 of_lift.is_report.certified.each line.1 in
      let entry : line.0.proc_entry ≡ p = ap (λ (t : ℕ × ℕ × CertWord). t.0) line.2 in
      let register : line.0.register ≡ r = ap (λ (t : ℕ × ℕ × CertWord). t.1) line.2 in
      let word_is : word_of line.0.cert ≡ word = ap (λ (t : ℕ × ℕ × CertWord). t.2) line.2 in
      let at : slice_get lift.points.procedures is.procedure ≡ Some p = is.entry_is ∙ ap Some entry in
      record {
        position = is.position;
        tracked = is.register_is ∙ ap (λ (q : ℕ). Some (Register q)) register;
        certified = subst (λ (q : ℕ). Certified lift.program q is.position) (sym (number_is lift.points has is.procedure p at))
            (back_certified lift.program is.procedure is.position line.0.cert word is.is word_is back);
      }

  back_position : (p r : ℕ) → IsGivenBack report p r → Position p r
  back_position p r (inl granted) = told_position p r Granted granted (λ same. cc same)
  back_position p r (inr never) = told_position p r Never never (λ same. cc same)

  point_told : (p : ℕ) → Contains lift.points.procedures p → (point : PointRows) × Contains report.points point × (point.proc_entry ≡ p)
  point_told p there =
      let code = from_map (λ (c : CodePoint). c.point.proc_entry) lift.points.points p (only_procedures lift.points p has there) in
      let u = number_at lift.points.points code.0 code.1 in
      let within = slice_get_within lift.points.points u.0 code.0 u.1 in
      let point = get_or report.points u.0 nowhere in
      let count = of_lift.is_report.count in
      let below : u.0 < length report.points = omega (arith, within, count) in
      let told = of_lift.is_report.told u.0 code.0 point u.1 (slice_get-get_or report.points u.0 nowhere below) in
      (point, Contains-get_or report.points u.0 nowhere below, told.procedure ∙ code.2)

  given_back : (spared : ℕ → Bool) → AreGivenBack report spared → (r p : ℕ) → spared r ≡ true → Contains lift.points.procedures p → Position p r
  given_back spared are r p is there =
      let told = point_told p there in
      back_position p r (subst (λ (q : ℕ). IsGivenBack report q r) told.2
      (All-contains (λ (point : PointRows). IsGivenBack report point.proc_entry r) report.points told.0 (are r is) told.1))

  pub spared_by_words : (spared : ℕ → Bool) → AreGivenBack report spared → (r : ℕ) → spared r ≡ true → IsSpared lift r
  spared_by_words spared are r is =
      let entry = owner_there lift.points has (start lift.points.entry) (begins lift.points has) in
      let first = given_back spared are r lift.points.entry is entry in
      record {
        position = first.position;
        tracked = first.tracked;
        certified = λ p there.
            let other = given_back spared are r p is there in
            subst (Certified lift.program (number lift p))
            (of_lift.is_lift.distinct other.position first.position (Register r) other.tracked first.tracked) other.certified;
      }

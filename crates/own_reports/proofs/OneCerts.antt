-- The certificates of a program are one.
use Rattle.std.proofs.Common.{◌≡◌, ℕ, List, [], ◌∷◌, All, map, Some, refl, ap, sym, ◌∙◌, subst}
use Rattle.abi_cert.specs.Certificates.{IsCertOf}
use Rattle.abi_cert.specs.declared.cert.Cert.{Cert}
use Rattle.abi_cert.specs.declared.cert.Cert.TheVariants.{Broken, Granted, NeverReturns}
use Rattle.std.proofs.lemmas.List.Elements.{All-head, All-tail}
use Rattle.affine_lift.proofs.Cited.{number_is}
use Rattle.affine_lift.specs.Lifting.{number_of}
use Rattle.affine_prog.specs.declared.Program.{Program}
use Rattle.flow_points.specs.PointLists.{FlowPoints, HasCode}
use Rattle.report_text.specs.declared.certs.CertWord.{CertWord}
use Rattle.report_text.specs.declared.certs.ReportCert.{ReportCert}
use Rattle.report_text.specs.declared.names.Name.{Name}
use Rattle.report_text.specs.declared.names.Name.TheVariants.{Register}
use Rattle.report_read.proofs.Sets.{same_cert}
use Rattle.run_paths.specs.Lifts.{AreDistinct}
use Rattle.analyser_core.specs.Certified.{IsCertLineOf, site_of, told_of}
use Rattle.analyser_core.specs.declared.cert_line.CertLine.{CertLine}

one_cert : (program : Program) (p r : ℕ) (a b : Cert) → IsCertOf program p r a → IsCertOf program p r b → a ≡ b
one_cert program p r Granted Granted h k = refl
one_cert program p r Granted Broken h k = absurd (k.1 h.1)
one_cert program p r Granted NeverReturns h k = absurd (k h.0)
one_cert program p r Broken Granted h k = absurd (h.1 k.1)
one_cert program p r Broken Broken h k = refl
one_cert program p r Broken NeverReturns h k = absurd (k h.0)
one_cert program p r NeverReturns Granted h k = absurd (h k.0)
one_cert program p r NeverReturns Broken h k = absurd (h k.0)
one_cert program p r NeverReturns NeverReturns h k = refl

module _ (program : Program) (points : FlowPoints) (names : List Name) (has : HasCode points) (distinct : AreDistinct names) where
  one_line : (a b : CertLine) → IsCertLineOf program points names a → IsCertLineOf program points names b → site_of a ≡ site_of b
      → a ≡ b
  one_line a b h k same =
      let entry : a.proc_entry ≡ b.proc_entry = ap (λ (s : ℕ × ℕ). s.0) same in
      let register : a.register ≡ b.register = ap (λ (s : ℕ × ℕ). s.1) same in
      let procedure : k.procedure ≡ h.procedure =
      sym (number_is points has k.procedure b.proc_entry k.entry_is) ∙ ap (number_of points) (sym entry)
      ∙ number_is points has h.procedure a.proc_entry h.entry_is in
      let position : k.position ≡ h.position =
      distinct k.position h.position (Register a.register) (k.register_is ∙ ap (λ (r : ℕ). Some (Register r)) (sym register)) h.register_is in
      let there = subst (λ (p : ℕ). IsCertOf program p h.position b.cert) procedure
      (subst (λ (r : ℕ). IsCertOf program k.procedure r b.cert) position k.is) in
      let cert = one_cert program h.procedure h.position a.cert b.cert h.is there in
      λ i. record { proc_entry = entry i; register = register i; cert = cert i }

  pub one_lines : (xs ys : List CertLine) → All (IsCertLineOf program points names) xs → All (IsCertLineOf program points names) ys
      → map site_of xs ≡ map site_of ys → xs ≡ ys
  one_lines [] [] h k same = refl
  one_lines [] (y ∷ ys) h k same = absurd (cc)
  one_lines (x ∷ xs) [] h k same = absurd (cc)
  one_lines (x ∷ xs) (y ∷ ys) h k same =
      let P = IsCertLineOf program points names in
      let heads : site_of x ≡ site_of y = cc in
      let tails : map site_of xs ≡ map site_of ys = cc in
      ap (λ (z : CertLine). z ∷ xs) (one_line x y (All-head P x xs h) (All-head P y ys k) heads)
      ∙ ap (λ (zs : List CertLine). y ∷ zs) (one_lines xs ys (All-tail P x xs h) (All-tail P y ys k) tails)

one_told : (a b : ReportCert) → told_of a ≡ told_of b → a ≡ b
one_told a b same =
    same_cert a b (ap (λ (t : ℕ × ℕ × CertWord). t.0) same) (ap (λ (t : ℕ × ℕ × CertWord). t.1) same)
    (ap (λ (t : ℕ × ℕ × CertWord). t.2) same)

pub all_told : (xs ys : List ReportCert) → map told_of xs ≡ map told_of ys → xs ≡ ys
all_told [] [] same = refl
all_told [] (y ∷ ys) same = absurd (cc)
all_told (x ∷ xs) [] same = absurd (cc)
all_told (x ∷ xs) (y ∷ ys) same =
    let heads : told_of x ≡ told_of y = cc in
    let tails : map told_of xs ≡ map told_of ys = cc in
    ap (λ (z : ReportCert). z ∷ xs) (one_told x y heads) ∙ ap (λ (zs : List ReportCert). y ∷ zs) (all_told xs ys tails)

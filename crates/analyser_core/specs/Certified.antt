-- The certificates of a program's procedures.
--
--   IsCertLineOf program points names line
--                              the line has the entry of a procedure of the points and a register of the names that is certified,
--                              and the certificate of that register's position in that procedure
--   site_of line               the procedure and the register of a line
--   AreCertificatesAt program points names procedures certs
--                              there is such a line for each of these procedures, in their order, and each of sp, ra and s0 to s11
--                              that is tracked, in track order
--   AreCertificatesOf program points names certs
--                              so there is for all procedures of the points, which ascend
--   word_of cert               the word that a report has for a certificate
--   told_in line               a line's procedure, its register and the word of its certificate
--   told_of cert               the same of a certificate in a report
use Rattle.std.specs.Prelude.{◌≡◌, ℕ, List, All, map, Some, IsTrue, slice_get}
use Rattle.abi_cert.specs.Certificates.{IsCertOf}
use Rattle.abi_cert.specs.declared.cert.Cert.{Cert}
use Rattle.abi_cert.specs.declared.cert.Cert.TheVariants as certs
use Rattle.flow_points.specs.PointLists.{FlowPoints}
use Rattle.affine_prog.specs.declared.Program.{Program}
use Rattle.report_text.specs.Names.{is_certified}
use Rattle.report_text.specs.Certificates.{certified_names, sites_of}
use Rattle.report_text.specs.declared.names.Name.{Name}
use Rattle.report_text.specs.declared.names.Name.TheVariants.{Register}
use Rattle.report_text.specs.declared.certs.CertWord.{CertWord}
use Rattle.report_text.specs.declared.certs.CertWord.TheVariants.{Granted, Broken, Never}
use Rattle.report_text.specs.declared.certs.ReportCert.{ReportCert}
use Rattle.analyser_core.specs.declared.cert_line.CertLine.{CertLine}

pub record IsCertLineOf (program : Program) (points : FlowPoints) (names : List Name) (line : CertLine) : Type 0 where
  pub procedure : ℕ
  pub position : ℕ
  pub entry_is : slice_get points.procedures procedure ≡ Some line.proc_entry
  pub register_is : slice_get names position ≡ Some (Register line.register)
  pub among : IsTrue (is_certified line.register)
  pub is : IsCertOf program procedure position line.cert

abbrev pub site_of : CertLine → ℕ × ℕ
site_of line = (line.proc_entry, line.register)

pub record AreCertificatesAt (program : Program) (points : FlowPoints) (names : List Name) (procedures : List ℕ) (certs : List CertLine) : Type 0 where
  pub sites : map site_of certs ≡ sites_of procedures (certified_names names)
  pub each : All (IsCertLineOf program points names) certs

abbrev pub AreCertificatesOf : Program → FlowPoints → List Name → List CertLine → Type 0
AreCertificatesOf program points names certs = AreCertificatesAt program points names points.procedures certs

abbrev pub word_of : Cert → CertWord
word_of certs.Granted = Granted
word_of certs.Broken = Broken
word_of certs.NeverReturns = Never

abbrev pub told_in : CertLine → ℕ × ℕ × CertWord
told_in line = (line.proc_entry, line.register, word_of line.cert)

abbrev pub told_of : ReportCert → ℕ × ℕ × CertWord
told_of cert = (cert.proc_entry, cert.register, cert.word)

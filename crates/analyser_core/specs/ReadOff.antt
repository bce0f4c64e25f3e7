-- Certificates, as they are read off the summaries. No public contract cites these words.
--
--   IsReadOff summary p names line     the line is of the procedure at p and of a certified register among the names, and its
--                                      certificate is what the summary says of that register's position
--   AreReadOff summary p names lines   there is such a line for each certified register, in track order
--   IsSummaryOf procedures exits p summary   the summary stands among the bases at the exits where p stands among the procedures
--   AreWordsAt program points names procedures certs   a report tells so the certificates of the program at these procedures
use Rattle.std.specs.Prelude.{◌≡◌, ℕ, List, All, map, Some, IsTrue, slice_get}
use Rattle.abi_cert.specs.Certificates.{IsCertificate}
use Rattle.affine_prog.specs.Spans.{rows_at}
use Rattle.affine_prog.specs.declared.Program.{Program}
use Rattle.flow_points.specs.PointLists.{FlowPoints}
use Rattle.report_text.specs.Names.{is_certified}
use Rattle.report_text.specs.Certificates.{certified_names}
use Rattle.report_text.specs.declared.names.Name.{Name}
use Rattle.report_text.specs.declared.names.Name.TheVariants.{Register}
use Rattle.report_text.specs.declared.certs.ReportCert.{ReportCert}
use Rattle.analyser_core.specs.declared.cert_line.CertLine.{CertLine}
use Rattle.analyser_core.specs.Certified.{site_of, told_in, told_of, AreCertificatesAt}

pub record IsReadOff (summary : List (List ℕ)) (p : ℕ) (names : List Name) (line : CertLine) : Type 0 where
  pub position : ℕ
  pub entry_is : line.proc_entry ≡ p
  pub register_is : slice_get names position ≡ Some (Register line.register)
  pub among : IsTrue (is_certified line.register)
  pub is : IsCertificate summary position line.cert

pub record AreReadOff (summary : List (List ℕ)) (p : ℕ) (names : List Name) (lines : List CertLine) : Type 0 where
  pub sites : map site_of lines ≡ map (λ r. (p, r)) (certified_names names)
  pub each : All (IsReadOff summary p names) lines

pub record IsSummaryOf (procedures : List ℕ) (exits : List (List (List ℕ))) (p : ℕ) (summary : List (List ℕ)) : Type 0 where
  pub place : ℕ
  pub at : slice_get procedures place ≡ Some p
  pub is : summary ≡ rows_at exits place

pub record AreWordsAt (program : Program) (points : FlowPoints) (names : List Name) (procedures : List ℕ)
    (certs : List ReportCert) : Type 0 where
  pub lines : List CertLine
  pub certified : AreCertificatesAt program points names procedures lines
  pub words : map told_of certs ≡ map told_in lines

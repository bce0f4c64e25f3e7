-- The certificates of an analysis, as text.
--
--   certs   = "affine-cert 1" nl "track " names nl proc* "end" nl
--   proc    = "proc " hex nl line*
--   line    = register " " ("granted" | "broken" | "never") nl
--
--   own_line_text p line       a line's register and the word of its certificate, where it is of the procedure at p
--   procedure_text certs p     the procedure's line, and its lines among the certificates
--   certs_text report certs    the whole text: each procedure of the report's points with its lines
use Rattle.std.specs.Prelude.{ℕ, List, [], ◌++◌, codes, ◌==◌, if◌then◌else◌}
use Rattle.std.specs.List.{flat_map}
use Rattle.report_text.specs.Text.{nl, names_text, proc_text, certified_text}
use Rattle.report_text.specs.Certificates.{procedures_of}
use Rattle.report_text.specs.declared.reports.Report.{Report}
use Rattle.analyser_core.specs.declared.cert_line.CertLine.{CertLine}
use Rattle.analyser_core.specs.Certified.{word_of}

abbrev pub own_line_text : ℕ → CertLine → List ℕ
own_line_text p line = if line.proc_entry == p then certified_text line.register (word_of line.cert) else []

abbrev pub procedure_text : List CertLine → ℕ → List ℕ
procedure_text certs p = proc_text p ++ flat_map (own_line_text p) certs

abbrev pub certs_text : Report → List CertLine → List ℕ
certs_text report certs =
    codes "affine-cert 1" ++ nl ++ codes "track " ++ names_text report.tracked.names ++ nl
    ++ flat_map (procedure_text certs) (procedures_of report.points) ++ codes "end" ++ nl

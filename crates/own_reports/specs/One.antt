-- That a file and a list have one report.
--
--   ReportsAreOne    two reports of analyses of the same bytes and list are equal, and so are their certificates
use Rattle.std.specs.Prelude.{◌≡◌, ℕ, List}
use Rattle.report_text.specs.declared.reports.Report.{Report}
use Rattle.analyser_core.specs.Reports.{IsReportOver}
use Rattle.analyser_core.specs.declared.cert_line.CertLine.{CertLine}

abbrev pub ReportsAreOne : Type 0
ReportsAreOne =
    (bytes list : List ℕ) (report other : Report) (certs lines : List CertLine) → IsReportOver bytes list report certs
    → IsReportOver bytes list other lines → (report ≡ other) × (certs ≡ lines)

-- That a file and a list aren't both accepted and refused.
--
--   ReportsAreUnrefused    where they have a report of an analysis, want of memory is the one cause of a refusal: the bytes are an
--                          image, its flow isn't refused, nor is the list, and the program hasn't too many heads
use Rattle.std.specs.Prelude.{◌≡◌, ℕ, List}
use Rattle.report_text.specs.declared.reports.Report.{Report}
use Rattle.analyser_core.specs.Accepted.{IsRefusal}
use Rattle.analyser_core.specs.Reports.{IsReportOver}
use Rattle.analyser_core.specs.declared.cert_line.CertLine.{CertLine}
use Rattle.analyser_core.specs.declared.refusal.Refusal.{Refusal}
use Rattle.analyser_core.specs.declared.refusal.Refusal.TheVariants.{Memory}

abbrev pub ReportsAreUnrefused : Type 0
ReportsAreUnrefused =
    (bytes list : List ℕ) (report : Report) (certs : List CertLine) (refusal : Refusal) → IsReportOver bytes list report certs
    → IsRefusal bytes list refusal → refusal ≡ Memory

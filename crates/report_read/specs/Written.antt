-- Reports whose texts are read.
--
--   IsOfWords report        the addresses of its slots, procedures and points are words
--   IsReadAs report r       r is this report; want of memory is free
use Rattle.std.specs.Prelude.{◌≡◌, ◌<◌, ◌^◌, All, Result, Ok, Err}
use Rattle.report_text.specs.declared.reports.Report.{Report}
use Rattle.report_lines.specs.NameTexts.{IsAddressed}
use Rattle.refusals.specs.declared.report.ReportRefusal.{ReportRefusal}
use Rattle.refusals.specs.declared.report.ReportRefusal.TheVariants as refusals

pub record IsOfWords (report : Report) : Type 0 where
  pub names : All IsAddressed report.tracked.names
  pub procedures : All (λ q. q.proc_entry < 2 ^ 64) report.points
  pub addresses : All (λ q. q.address < 2 ^ 64) report.points

abbrev pub IsReadAs : Report → Result Report ReportRefusal → Type 0
IsReadAs report (Ok read) = read ≡ report
IsReadAs report (Err refusals.Memory) = Unit {0}
IsReadAs report (Err (refusals.Syntax n)) = ⊥
IsReadAs report (Err (refusals.UnknownName n)) = ⊥
IsReadAs report (Err (refusals.Order n)) = ⊥
IsReadAs report (Err (refusals.NotReduced n)) = ⊥

-- The lines of reports that are refused.
--
--   refused text            the line of a refused report, with what it is refused for
--   report_line refusal     the line of bytes that are no report's text
--   stranger_line address   the line of a report that tells of what the file doesn't have
use Rattle.std.specs.Prelude.{ℕ, List, [], ◌++◌, codes}
use Rattle.number_text.specs.Numerals.{dec, hex}
use Rattle.refusals.specs.declared.report.ReportRefusal.{ReportRefusal}
use Rattle.refusals.specs.declared.report.ReportRefusal.TheVariants.{Syntax, UnknownName, Order, NotReduced, Memory}

abbrev pub refused : List ℕ → List ℕ
refused text = codes "refused report " ++ text ++ codes "\n"

-- want of memory has no line
abbrev pub report_line : ReportRefusal → List ℕ
report_line (Syntax line) = refused (codes "Syntax " ++ dec line)
report_line (UnknownName line) = refused (codes "UnknownName " ++ dec line)
report_line (Order line) = refused (codes "Order " ++ dec line)
report_line (NotReduced line) = refused (codes "NotReduced " ++ dec line)
report_line Memory = []

abbrev pub stranger_line : ℕ → List ℕ
stranger_line address = refused (codes "NotAPoint " ++ hex address)

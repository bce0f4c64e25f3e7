use Rattle.report_read.proofs.ReportRead.{text_read}
use Rattle.report_read.proofs.Texts.{told_found}
use Rattle.report_read.proofs.read.read_report.Goals as goal

pub returns-clause-found : goal.returns-clause-found
returns-clause-found c = told_found c.args.bytes.now c.read_text.result c.read_text.ensures

pub returns-clause-only : goal.returns-clause-only
returns-clause-only c report words is = text_read report c.args.bytes.now c.read_text.result words is c.read_text.ensures

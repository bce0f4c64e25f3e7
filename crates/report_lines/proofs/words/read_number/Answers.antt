use Rattle.report_lines.proofs.TermTexts.{number_read}
use Rattle.report_lines.proofs.words.read_number.Goals as goal

pub returns-in-Some : goal.returns-in-Some
returns-in-Some c = number_read c.args.plus c.args.text.now c.in-Some.n c.word_of.result c.in-Some.ensures.0 c.in-Some.ensures.1 c.word_of.ensures

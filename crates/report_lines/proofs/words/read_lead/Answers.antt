use Rattle.report_lines.proofs.TermTexts.{no_lead}
use Rattle.report_lines.proofs.words.read_lead.Goals as goal

pub returns-in-Some-Constant : goal.returns-in-Some-Constant
returns-in-Some-Constant c lead =
    let k = rw c.in-Some-Constant.field-0-is at c.in-Some-Constant.ensures in
    no_lead c.args.text.now c.in-Some-Constant.field-0-0 lead k.0 k.2

use Rattle.order_answers.proofs.LinesTold.{file_refused}
use Rattle.order_answers.proofs.file_code.refused.Goals as goal

pub returns : goal.returns
returns c = file_refused c.args.bytes.now c.args.refusal _ c.requires.short c.requires.cause c.in_ok-refusal_line.ensures

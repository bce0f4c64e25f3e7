use Rattle.std.proofs.Common.{refl}
use Rattle.abi_answers.specs.Answers as answers
use Rattle.abi_answers.proofs.answers.no_table.Goals as goal

pub returns : goal.returns
returns c = answers.IsAnswerTo.no_table c.requires refl c.in_ok-no_table_line.ensures

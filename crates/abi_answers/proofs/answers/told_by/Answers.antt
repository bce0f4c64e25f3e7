use Rattle.std.proofs.Common.{ap, ◌∙◌}
use Rattle.abi_answers.specs.Answers as answers
use Rattle.abi_answers.specs.Answers.{status_of}
use Rattle.abi_answers.proofs.answers.told_by.Goals as goal

pub returns : goal.returns
returns c =
    answers.IsAnswerTo.told c.args.image.now c.args.root c.args.rows.now c.args.routines.now c.requires.short c.requires.is_image c.requires.chosen
    (record { table = c.requires.table; found = c.requires.found; status_is = c.status_of.ensures ∙ ap status_of c.tally_of.ensures; text_is = c.in_ok-text.ensures })

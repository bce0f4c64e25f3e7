use Rattle.std.proofs.Common.{refl}
use Rattle.abi_answers.specs.Answers as answers
use Rattle.abi_answers.proofs.answers.no_entry.Goals as goal

pub returns : goal.returns
returns c =
    answers.IsAnswerTo.no_entry c.args.image.now c.args.word.now c.requires.short c.requires.is_image refl c.requires.none refl c.in_ok-no_entry_line.ensures

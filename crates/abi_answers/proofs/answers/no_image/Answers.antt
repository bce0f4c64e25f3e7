use Rattle.std.proofs.Common.{refl}
use Rattle.abi_answers.specs.Answers as answers
use Rattle.abi_answers.proofs.answers.no_image.Goals as goal

pub returns : goal.returns
returns c = answers.IsAnswerTo.no_image c.args.refusal c.requires.short c.requires.cause refl c.in_ok-elf_line.ensures

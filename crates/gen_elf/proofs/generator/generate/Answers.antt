use Rattle.gen_elf.proofs.Sizes.{generated_size}
use Rattle.gen_elf.proofs.generator.generate.Goals as goal

pub returns-in-Ok-clause-size : goal.returns-in-Ok-clause-size
returns-in-Ok-clause-size c = generated_size c.args.n _ c.in-Ok.ensures

use Rattle.std.proofs.Common.{arith}
use Rattle.elf_image.specs.Fetches.{loaded_in}
use Rattle.elf_image.proofs.BytesRead.{read_4}
use Rattle.elf_image.proofs.loaded.word_at.Goals as goal

pub returns : goal.returns
returns c = omega (arith, read_4 (loaded_in c.args.file.now c.args.segments.now) c.args.address)

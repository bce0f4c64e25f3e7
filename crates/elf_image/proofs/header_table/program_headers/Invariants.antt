use Rattle.std.proofs.Common.{◌≡◌}
use Rattle.elf_image.specs.Headers.{first_headers}
use Rattle.elf_image.proofs.header_table.program_headers.Given as goal

abbrev pub invariant-loop-k : goal.invariant-loop-k
invariant-loop-k l = l.headers.items ≡ first_headers l.bytes l.k

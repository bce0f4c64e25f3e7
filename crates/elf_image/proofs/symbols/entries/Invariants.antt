use Rattle.std.proofs.Common.{◌≡◌}
use Rattle.elf_image.specs.Symbols.{first_symbols}
use Rattle.elf_image.proofs.symbols.entries.Given as goal

abbrev pub invariant-loop-k : goal.invariant-loop-k
invariant-loop-k l = l.symbols.items ≡ first_symbols l.bytes l.strings l.from l.k

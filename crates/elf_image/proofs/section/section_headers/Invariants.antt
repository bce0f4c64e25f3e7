use Rattle.std.proofs.Common.{◌≡◌}
use Rattle.elf_image.specs.Symbols.{first_sections}
use Rattle.elf_image.proofs.section.section_headers.Given as goal

abbrev pub invariant-loop-k : goal.invariant-loop-k
invariant-loop-k l = l.sections.items ≡ first_sections l.bytes l.k

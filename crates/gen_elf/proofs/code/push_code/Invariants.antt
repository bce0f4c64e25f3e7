-- The instructions so far are appended.
use Rattle.std.proofs.Common.{take}
use Rattle.gen_elf.specs.Generated.{AddsCode}
use Rattle.gen_elf.proofs.code.push_code.Given as goal

abbrev pub invariant-loop-instr : goal.invariant-loop-instr
invariant-loop-instr l = AddsCode l.initial.file.items (take l.instr-index l.code) l.file.items

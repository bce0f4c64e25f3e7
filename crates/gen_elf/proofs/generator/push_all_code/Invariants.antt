-- The code of the procedures so far is appended.
use Rattle.std.specs.List.{flat_map, range_with_len}
use Rattle.gen_elf.specs.Generated.{AddsCode, procedure_code}
use Rattle.gen_elf.proofs.generator.push_all_code.Given as goal

abbrev pub invariant-loop-i : goal.invariant-loop-i
invariant-loop-i l = AddsCode l.initial.file.items (flat_map (procedure_code l.n) (range_with_len 1 l.i)) l.file.items

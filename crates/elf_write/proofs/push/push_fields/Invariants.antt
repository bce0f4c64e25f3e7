-- What is written and what stands for the fields to come is the whole.
use Rattle.std.proofs.Common.{◌≡◌, ◌++◌, drop}
use Rattle.elf_write.specs.Headers.{fields_text}
use Rattle.elf_write.proofs.push.push_fields.Given as goal

abbrev pub invariant-loop-field : goal.invariant-loop-field
invariant-loop-field l =
    l.file.items ++ fields_text (drop l.field-index l.fields) ≡ l.initial.file.items ++ fields_text l.fields

-- The segment that is found is one of a file that is accepted.
use Rattle.std.proofs.Common.{sym}
use Rattle.elf_image.specs.Segments.{holds_code}
use Rattle.elf_image.specs.declared.segment.Segment.{Segment}
use Rattle.elf_image.proofs.Laws.{found_loadable}
use Rattle.elf_image.proofs.Found.{found_passes}
use Rattle.elf_image.proofs.image.Image.code_word_at.Goals as goal

pub word_at-requires-clause-stored : goal.word_at-requires-clause-stored
word_at-requires-clause-stored c =
    let has_code = λ (s : Segment). holds_code s c.args.address in
    let loadable = found_loadable c.args.self.now c.as_slice.result.now has_code c.in_ok-segment.segment.now c.as_slice.ensures c.in_ok-segment.ensures in
    rw c.as_slice-2.ensures loadable.within

pub word_at-requires-clause-ends : goal.word_at-requires-clause-ends
word_at-requires-clause-ends c =
    let has_code = λ (s : Segment). holds_code s c.args.address in
    (found_loadable c.args.self.now c.as_slice.result.now has_code c.in_ok-segment.segment.now c.as_slice.ensures c.in_ok-segment.ensures).ends

pub word_at-requires-clause-held : goal.word_at-requires-clause-held
word_at-requires-clause-held c =
    let has_code = λ (s : Segment). holds_code s c.args.address in
    found_passes has_code c.as_slice.result.now c.in_ok-segment.segment.now (sym c.in_ok-segment.ensures)

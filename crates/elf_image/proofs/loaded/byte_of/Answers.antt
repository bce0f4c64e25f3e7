-- The segment that is found is one of the loadable ones, and holds the address.
use Rattle.std.proofs.Common.{length, sym}
use Rattle.elf_image.specs.Segments.{IsLoadable, holds}
use Rattle.elf_image.specs.declared.segment.Segment.{Segment}
use Rattle.elf_image.proofs.Found.{found_has, found_passes}
use Rattle.elf_image.proofs.Held.{held}
use Rattle.elf_image.proofs.loaded.byte_of.Goals as goal

pub byte_at-requires-clause-stored : goal.byte_at-requires-clause-stored
byte_at-requires-clause-stored c =
    let has_address = λ (s : Segment). holds s c.args.address in
    (found_has (IsLoadable (length c.args.file.now)) has_address c.args.segments.now c.in_ok-segment.segment.now c.requires (sym c.in_ok-segment.ensures)).within

pub byte_at-requires-clause-held : goal.byte_at-requires-clause-held
byte_at-requires-clause-held c =
    let has_address = λ (s : Segment). holds s c.args.address in
    let holds_it = found_passes has_address c.args.segments.now c.in_ok-segment.segment.now (sym c.in_ok-segment.ensures) in
    (held c.in_ok-segment.segment.now c.args.address holds_it).0

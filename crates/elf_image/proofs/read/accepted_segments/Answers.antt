-- Headers that none refuses are loadable.
use Rattle.std.proofs.Common.{◌≡◌, List, length, map, filter, All, rules, sym, subst}
use Rattle.elf_image.specs.Headers.{is_kept}
use Rattle.elf_image.specs.Segments.{IsLoadable, segment_of}
use Rattle.elf_image.specs.declared.segment.Segment.{Segment}
use Rattle.elf_image.proofs.Accepted.{kept_loadable}
use Rattle.elf_image.proofs.read.accepted_segments.Goals as goal

pub check_entry-requires-clause-loadable : goal.check_entry-requires-clause-loadable
check_entry-requires-clause-loadable c =
    let size = length c.args.bytes.now in
    let are : c.deref-5.result.now ≡ map segment_of (filter is_kept c.deref.result.now) = search rules in
    subst (λ (ss : List Segment). All (IsLoadable size) ss) (sym are) (kept_loadable size c.deref.result.now (search rules))

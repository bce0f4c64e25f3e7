-- The segments of an image are loadable.
use Rattle.elf_image.proofs.Laws.{loadable_list}
use Rattle.elf_image.proofs.image.Image.byte_at.Goals as goal

pub byte_of-requires : goal.byte_of-requires
byte_of-requires c = loadable_list c.args.self.now _ _ c.as_slice.ensures c.as_slice-2.ensures

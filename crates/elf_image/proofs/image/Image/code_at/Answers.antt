-- The segments of an image are loadable.
use Rattle.elf_image.proofs.Laws.{loadable_list}
use Rattle.elf_image.proofs.image.Image.code_at.Goals as goal

pub fetched_in-requires-clause-loadable : goal.fetched_in-requires-clause-loadable
fetched_in-requires-clause-loadable c = loadable_list c.args.self.now _ _ c.as_slice-file.ensures c.as_slice-segments.ensures

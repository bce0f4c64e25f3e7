use Rattle.std.proofs.Common.{arith}
use Rattle.word_rows.proofs.Covered.{all_cover}
use Rattle.word_rows.proofs.rows.Row.from_words.Goals as goal

pub mask_of-requires-clause-covers : goal.mask_of-requires-clause-covers
mask_of-requires-clause-covers g c = all_cover c.args.words.now (omega (arith, c.requires.items, c.requires.within))

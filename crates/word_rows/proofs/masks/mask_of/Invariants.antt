use Rattle.std.proofs.Common.{◌≡◌}
use Rattle.word_rows.specs.Masks.{others}
use Rattle.word_rows.proofs.masks.mask_of.Given as goal

abbrev pub invariant-loop-chunk : goal.invariant-loop-chunk
invariant-loop-chunk l = l.mask ≡ others l.chunk l.words

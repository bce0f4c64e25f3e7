use Rattle.std.proofs.Common.{◌*◌, get_or}
use Rattle.word_rows.specs.Words.{word}
use Rattle.word_rows.proofs.Blocks.{DoneTo}
use Rattle.word_rows.proofs.slices.multiply_all.Given as goal

abbrev pub invariant-loop-chunk : goal.invariant-loop-chunk
invariant-loop-chunk l = DoneTo (λ k. word (l.c * get_or l.fn.words k 0)) (8 * l.chunk) l.fn.words l.words

abbrev pub invariant-loop-at : goal.invariant-loop-at
invariant-loop-at l = DoneTo (λ k. word (l.c * get_or l.fn.words k 0)) l.at l.fn.words l.words

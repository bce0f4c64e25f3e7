use Rattle.std.proofs.Common.{◌+◌, ◌*◌, get_or}
use Rattle.word_rows.specs.Words.{word}
use Rattle.word_rows.proofs.Blocks.{DoneTo}
use Rattle.word_rows.proofs.slices.add_multiple.Given as goal

abbrev pub invariant-loop-chunk : goal.invariant-loop-chunk
invariant-loop-chunk l = DoneTo (λ k. word (get_or l.fn.into k 0 + l.c * get_or l.from k 0)) (8 * l.chunk) l.fn.into l.into

abbrev pub invariant-loop-at : goal.invariant-loop-at
invariant-loop-at l = DoneTo (λ k. word (get_or l.fn.into k 0 + l.c * get_or l.from k 0)) l.at l.fn.into l.into

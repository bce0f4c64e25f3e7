use Rattle.std.proofs.Common.{◌≡◌, ◌+◌, ◌*◌, drop}
use Rattle.std.specs.Simd.Lanes.{sum_l}
use Rattle.word_rows.specs.Words.{word}
use Rattle.word_rows.specs.Rows.{dot_sum, dot}
use Rattle.word_rows.proofs.slices.dot_of.Given as goal

abbrev pub invariant-loop-chunk : goal.invariant-loop-chunk
invariant-loop-chunk l = word (sum_l l.sums + dot_sum (drop (8 * l.chunk) l.xs) (drop (8 * l.chunk) l.ys)) ≡ dot l.xs l.ys

abbrev pub invariant-loop-at : goal.invariant-loop-at
invariant-loop-at l = word (l.sum + dot_sum (drop l.at l.xs) (drop l.at l.ys)) ≡ dot l.xs l.ys

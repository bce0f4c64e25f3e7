use Rattle.std.proofs.Common.{arith}
use Rattle.word_rows.proofs.ByIndex.{times_from_index}
use Rattle.word_rows.proofs.Blocks.{times_done, times_skipped}
use Rattle.word_rows.proofs.slices.multiply_all.Goals as goal
use Rattle.word_rows.proofs.slices.multiply_all.Goals.{then-has, else-has}

pub loop-chunk-preserved : goal.loop-chunk-preserved
loop-chunk-preserved c = elim c.if-has.branch [
  | then-has w ↦ rw w.words-is (
      times_done c.args.c c.loop-chunk.chunk c.args.words.now c.loop-chunk.words _ (omega arith) (omega arith)
      c.loop-chunk.invariant w.multiply_lanes.ensures)
  | else-has w ↦ rw w.words-is (
      times_skipped c.args.c c.loop-chunk.chunk c.args.chunks c.args.words.now c.loop-chunk.words
      (omega arith) c.requires.covers w.if-has.ensures c.loop-chunk.invariant)
]

pub returns : goal.returns
returns c =
    times_from_index c.args.c c.args.words.now c.loop-at.words (omega arith)
    (λ k h. c.loop-at.invariant.done k (omega arith))

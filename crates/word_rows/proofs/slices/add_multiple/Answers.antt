use Rattle.std.proofs.Common.{arith}
use Rattle.word_rows.proofs.ByIndex.{plus_from_index}
use Rattle.word_rows.proofs.Blocks.{plus_done, plus_skipped}
use Rattle.word_rows.proofs.slices.add_multiple.Goals as goal
use Rattle.word_rows.proofs.slices.add_multiple.Goals.{then-has, else-has}

pub loop-chunk-preserved : goal.loop-chunk-preserved
loop-chunk-preserved c = elim c.if-has.branch [
  | then-has w ↦ rw w.into-is (
      plus_done c.args.c c.loop-chunk.chunk c.args.into.now c.loop-chunk.into c.args.from.now _ c.requires.same (omega arith) (omega arith)
      c.loop-chunk.invariant w.add_lanes.ensures)
  | else-has w ↦ rw w.into-is (
      plus_skipped c.args.c c.loop-chunk.chunk c.args.chunks c.args.into.now c.loop-chunk.into c.args.from.now
      c.each_is_word.ensures (omega arith) c.requires.covers w.if-has.ensures c.loop-chunk.invariant)
]

pub returns : goal.returns
returns c =
    plus_from_index c.args.c c.args.into.now c.args.from.now c.loop-at.into c.requires.same (omega arith)
    (λ k h. c.loop-at.invariant.done k (omega arith))

use Rattle.std.proofs.Common.{refl, arith}
use Rattle.word_rows.proofs.Blocks.{products_more, products_skipped, products_left}
use Rattle.word_rows.proofs.Vectors.{lanes_sum}
use Rattle.word_rows.proofs.slices.dot_of.Goals as goal
use Rattle.word_rows.proofs.slices.dot_of.Goals.{then-has, else-has}

pub loop-chunk-preserved : goal.loop-chunk-preserved
loop-chunk-preserved c = elim c.if-has.branch [
  | then-has w ↦ rw w.sums-is (
      products_more _ _ c.loop-chunk.chunk _ c.args.xs.now c.args.ys.now w.add_products-sums.ensures c.loop-chunk.invariant)
  | else-has w ↦ rw w.sums-is (
      products_skipped _ c.loop-chunk.chunk c.args.chunks _ c.args.xs.now c.args.ys.now (omega arith) (omega arith)
      c.requires.covers w.if-has.ensures c.loop-chunk.invariant)
]

pub loop-at-init : goal.loop-at-init
loop-at-init c =
    products_left _ _ c.loop-chunk.chunk _ _ c.args.xs.now c.args.ys.now (lanes_sum 0 c.loop-chunk.sums refl) (omega arith) c.loop-chunk.invariant

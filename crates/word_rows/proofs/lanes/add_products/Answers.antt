use Rattle.std.proofs.Common.{arith}
use Rattle.std.proofs.lemmas.Simd.{length-chunk}
use Rattle.std.specs.Simd.Lanes.{chunk}
use Rattle.word_rows.proofs.Vectors.{lanes_dot}
use Rattle.word_rows.proofs.lanes.add_products.Goals as goal

pub returns : goal.returns
returns c =
    let xs = chunk c.args.at 8 c.args.xs.now in
    let ys = chunk c.args.at 8 c.args.ys.now in
    lanes_dot c.args.sums xs ys
    (omega (arith, c.fits-sums.0, length-chunk c.args.at 8 c.args.xs.now c.requires.xs))
    (omega (arith, c.fits-sums.0, length-chunk c.args.at 8 c.args.ys.now c.requires.ys))

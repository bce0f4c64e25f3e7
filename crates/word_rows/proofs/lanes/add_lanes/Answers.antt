use Rattle.std.proofs.Common.{ap}
use Rattle.std.proofs.lemmas.Simd.{length-chunk}
use Rattle.std.specs.Simd.Lanes.{chunk, put_chunk}
use Rattle.word_rows.proofs.Vectors.{lanes_plus}
use Rattle.word_rows.proofs.lanes.add_lanes.Goals as goal

pub returns : goal.returns
returns c =
    ap (put_chunk c.args.at c.args.into.now)
    (lanes_plus c.args.c 8 (chunk c.args.at 8 c.args.into.now) (chunk c.args.at 8 c.args.from.now) (length-chunk c.args.at 8 c.args.from.now c.requires.from))

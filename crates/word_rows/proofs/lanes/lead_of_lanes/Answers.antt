use Rattle.std.proofs.lemmas.Simd.{length-chunk}
use Rattle.std.specs.Simd.Lanes.{chunk}
use Rattle.word_rows.proofs.Vectors.{mask_none, mask_some}
use Rattle.word_rows.proofs.lanes.lead_of_lanes.Goals as goal

pub returns-then-others-eq0 : goal.returns-then-others-eq0
returns-then-others-eq0 c =
    mask_none (chunk c.args.at 8 c.args.words.now) (length-chunk c.args.at 8 c.args.words.now c.requires) c.if-others-eq0.true

pub returns-else-others-eq0 : goal.returns-else-others-eq0
returns-else-others-eq0 c =
    mask_some (chunk c.args.at 8 c.args.words.now) (length-chunk c.args.at 8 c.args.words.now c.requires) c.if-others-eq0.false

use Rattle.std.proofs.Common.{length, ap, ◌∙◌, arith}
use Rattle.word_rows.proofs.Covered.{kept_covers, set_covers}
use Rattle.word_rows.proofs.rows.Row.with.Goals as goal

pub mask_of-requires-clause-covers : goal.mask_of-requires-clause-covers
mask_of-requires-clause-covers g c =
    let h = c.self.invariant.1 in let i = c.requires in
    let e = ap length c.self.view_is ∙ c.known.ensures.row.width in
    set_covers c.self.inside.mask c.args.i c.args.w c.self.inside.words (omega arith) (omega arith)
    (kept_covers c.self.inside.mask c.self.inside.words (omega arith) c.self.invariant.2)

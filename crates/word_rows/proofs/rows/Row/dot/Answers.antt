use Rattle.std.proofs.Common.{sym, ◌∙◌, arith}
use Rattle.word_rows.proofs.Covered.{kept_covers, products_covered}
use Rattle.word_rows.proofs.rows.Row.dot.Goals as goal

pub dot_of-requires-clause-covers : goal.dot_of-requires-clause-covers
dot_of-requires-clause-covers g c =
    let e = c.self.told in let d = c.other.told in let h = c.self.invariant.1 in
    products_covered c.self.inside.mask c.other.inside.mask c.self.inside.words c.other.inside.words (e ∙ sym d)
    (kept_covers c.self.inside.mask c.self.inside.words (omega arith) c.self.invariant.2)
    (kept_covers c.other.inside.mask c.other.inside.words (omega arith) c.other.invariant.2)

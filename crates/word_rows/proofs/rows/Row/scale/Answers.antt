use Rattle.std.proofs.Common.{arith}
use Rattle.word_rows.proofs.Covered.{kept_covers, times_cover}
use Rattle.word_rows.proofs.rows.Row.scale.Goals as goal

pub multiply_all-requires-clause-covers : goal.multiply_all-requires-clause-covers
multiply_all-requires-clause-covers g c =
    kept_covers c.self.inside.mask c.self.inside.words (let e = c.self.told in let h = c.self.invariant.1 in omega arith) c.self.invariant.2

pub mask_of-self-inside-requires-clause-covers : goal.mask_of-self-inside-requires-clause-covers
mask_of-self-inside-requires-clause-covers g c = rw c.multiply_all.ensures (
    times_cover c.self.inside.mask c.args.c c.self.inside.words
    (kept_covers c.self.inside.mask c.self.inside.words (let e = c.self.told in let h = c.self.invariant.1 in omega arith) c.self.invariant.2))

use Rattle.std.proofs.Common.{sym}
use Rattle.word_rows.proofs.Covered.{mask_of_zeros}
use Rattle.word_rows.proofs.rows.Row.zero.Goals as goal

pub invariant_of-result : goal.invariant_of-result
invariant_of-result g c = (c.requires.some, c.requires.within, sym (mask_of_zeros g.row.N))

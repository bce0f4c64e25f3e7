use Rattle.std.proofs.Common.{refl, arith}
use Rattle.word_rows.proofs.Laws.{lead-zeros}
use Rattle.lead_basis.proofs.multiples.divides.Goals as goal

pub returns-in-None : goal.returns-in-None
returns-in-None g c =
    let zero = c.lead.ensures.zero.0 (rw c.in-None.is refl) in
    let end = lead-zeros g.row.N in
    absurd (let h = rw zero at c.requires in omega (arith, h, end))

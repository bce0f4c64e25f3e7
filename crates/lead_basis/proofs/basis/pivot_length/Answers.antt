use Rattle.std.proofs.Common.{refl, arith}
use Rattle.word_rows.proofs.Laws.{lead-zeros}
use Rattle.lead_basis.proofs.basis.pivot_length.Goals as goal

pub returns-in-None-clause-length : goal.returns-in-None-clause-length
returns-in-None-clause-length g c = λ below.
    let zero = c.lead.ensures.zero.0 (rw c.in-None.is refl) in
    let end = lead-zeros g.row.N in
    absurd (let h = rw zero at below in omega (arith, h, end))

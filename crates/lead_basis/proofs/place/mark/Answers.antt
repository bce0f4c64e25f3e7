use Rattle.std.proofs.Common.{refl, arith}
use Rattle.word_rows.proofs.Laws.{lead-zeros}
use Rattle.lead_basis.proofs.place.mark.Goals as goal

pub returns-in_default : goal.returns-in_default
returns-in_default g c =
    let zero = c.lead.ensures.zero.0 (rw c.in_default.is refl) in
    let end = lead-zeros g.row.N in
    record { here = λ below. absurd (let h = rw zero at below in omega (arith, h, end)); kept = λ k z. z }

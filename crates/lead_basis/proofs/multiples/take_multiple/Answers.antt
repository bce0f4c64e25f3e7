use Rattle.std.proofs.Common.{◌≡◌, ℕ, ◌/◌, slice_index, ap, ◌∙◌, arith, refl}
use Rattle.word_rows.specs.Rows.{lead}
use Rattle.word_rows.proofs.Laws.{lead-zeros}
use Rattle.lead_basis.proofs.Taking.{takes_multiple}
use Rattle.lead_basis.proofs.multiples.take_multiple.Goals as goal

pub returns-in-Some : goal.returns-in-Some
returns-in-Some g c = λ below.
    let at = c.in-Some.ensures.first in
    let p : c.get-in-Some.result ≡ slice_index c.args.by.now (lead c.args.by.now) = c.get-in-Some.ensures ∙ ap (λ (k : ℕ). slice_index c.args.by.now k) at in
    let r : c.get.result ≡ slice_index c.args.row.now (lead c.args.by.now) = c.get.ensures ∙ ap (λ (k : ℕ). slice_index c.args.row.now k) at in
    takes_multiple g.row.N c.args.by.now c.args.row.now c.add_scaled.new.self c.wrapping_neg.result (c.get.result / c.get-in-Some.result) c.get-in-Some.result
    c.known-2.ensures.row c.known.ensures.row p (ap (λ (x : ℕ). x / c.get-in-Some.result) r) c.wrapping_neg.ensures c.add_scaled.ensures

pub returns-in_default : goal.returns-in_default
returns-in_default g c = λ below.
    let zero = c.lead.ensures.zero.0 (rw c.in_default.is refl) in
    let end = lead-zeros g.row.N in
    absurd (let h = rw zero at below in omega (arith, h, end))

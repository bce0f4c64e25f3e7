use Rattle.std.proofs.Common.{◌≡◌, ℕ, ◌*◌, ◌^◌, slice_index, ap, ◌∙◌, sym, arith, refl}
use Rattle.word_rows.specs.Rows.{lead}
use Rattle.word_rows.proofs.Laws.{lead-zeros}
use Rattle.lead_basis.proofs.Normals.{normal_of}
use Rattle.lead_basis.proofs.multiples.normal.Goals as goal

pub returns-in-Some : goal.returns-in-Some
returns-in-Some g c =
    let at : slice_index c.args.row.now (lead c.args.row.now) ≡ 2 ^ c.odd_part-odd.result.0 * c.odd_part-odd.result.1 =
    ap (λ (k : ℕ). slice_index c.args.row.now k) (sym c.in-Some.ensures.first) ∙ sym c.get.ensures ∙ c.odd_part-odd.ensures.product in
    normal_of g.row.N c.args.row.now c.scale.new.self c.odd_part-odd.result.0 c.odd_part-odd.result.1 c.inverse.result
    c.known.ensures.row c.requires at c.odd_part-odd.ensures.small c.inverse.ensures c.scale.ensures

pub returns-in_default : goal.returns-in_default
returns-in_default g c =
    let zero = c.lead.ensures.zero.0 (rw c.in_default.is refl) in
    let end = lead-zeros g.row.N in
    absurd (let h = rw zero at c.requires in omega (arith, h, end))

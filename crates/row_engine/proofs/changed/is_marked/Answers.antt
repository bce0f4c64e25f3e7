use Rattle.std.proofs.Common.{◌≡◌, ap, refl, ◌∙◌, arith}
use Rattle.std.proofs.lemmas.List.{get_or_past}
use Rattle.word_rows.specs.Rows.{lead}
use Rattle.word_rows.proofs.Laws.{lead-zeros}
use Rattle.row_engine.proofs.changed.is_marked.Goals as goal

pub returns-in-None : goal.returns-in-None
returns-in-None g c =
    let zero = c.lead.ensures.zero.0 (rw c.in-None.is refl) in
    let past : lead c.args.row.now ≡ g.row.N = ap lead zero ∙ lead-zeros g.row.N in
    let wide = c.known-2.ensures.row.width in
    λ f. get_or_past c.args.marks.now (lead c.args.row.now) 0 (omega arith)

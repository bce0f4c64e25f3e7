use Rattle.std.proofs.Common.{length, sym, ◌∙◌, ap, arith}
use Rattle.word_rows.specs.Rows.{words_of, plus}
use Rattle.word_rows.proofs.Laws.{plus-zero}
use Rattle.word_rows.proofs.Covered.{kept_covers, plus_covers}
use Rattle.word_rows.proofs.rows.Row.add_scaled.Goals as goal

pub add_multiple-requires-clause-covers : goal.add_multiple-requires-clause-covers
add_multiple-requires-clause-covers g c =
    kept_covers c.other.inside.mask c.other.inside.words (let e = c.other.told in let h = c.other.invariant.1 in omega arith) c.other.invariant.2

pub mask_of-self-inside-requires-clause-covers : goal.mask_of-self-inside-requires-clause-covers
mask_of-self-inside-requires-clause-covers g c =
    let e = c.self.told in let d = c.other.told in let h = c.self.invariant.1 in
    rw c.add_multiple.ensures (
    plus_covers c.self.inside.mask c.other.inside.mask c.args.c c.self.inside.words c.other.inside.words (e ∙ sym d)
    (kept_covers c.self.inside.mask c.self.inside.words (omega arith) c.self.invariant.2)
    (kept_covers c.other.inside.mask c.other.inside.words (omega arith) c.other.invariant.2))

pub returns-else-c-ne0 : goal.returns-else-c-ne0
returns-else-c-ne0 g c =
    let xs = c.args.self.now in let ys = c.args.other.now in
    let row = c.known.ensures.row in
    let same = row.width ∙ sym (ap length (sym c.other.view_is) ∙ c.other.told) in
    sym (ap (λ k. words_of (plus k xs ys)) c.if-c-ne0.false ∙ ap words_of (plus-zero xs ys same) ∙ row.words)

use Rattle.std.proofs.Common.{◌≡◌, ◌∙◌, arith}
use Rattle.lead_basis.proofs.Filling.{turned_all}
use Rattle.lead_basis.proofs.mirror.turned.Goals as goal

pub returns : goal.returns
returns c =
    let past = c.loop-i-test.false in let end = c.loop-i.auto.i-end in
    c.from_words.ensures ∙ turned_all c.args.row.now c.loop-i.words c.known.ensures.row.width (let e : c.loop-i.i ≡ 17 = omega arith in rw e at c.loop-i.invariant)

use Rattle.std.proofs.Common.{sym, subst}
use Rattle.proof_text.proofs.Fronts.{IsUpTo, word_more}
use Rattle.proof_text.proofs.sparse.sparse_row.Goals as goal

pub loop-i-preserved : goal.loop-i-preserved
loop-i-preserved g c =
    subst (IsUpTo g.row.N c.args.row.now _) (sym c.in_ok-push_word.ensures)
    (word_more g.row.N c.args.row.now c.loop-i.i c.loop-i.words c.get.result c.loop-i-test.true c.get.type_inv c.get.ensures c.loop-i.invariant)

use Rattle.std.proofs.Common.{sym, subst}
use Rattle.proof_text.specs.Sparse.{AreSparseOf}
use Rattle.proof_text.proofs.Fronts.{sparse_more}
use Rattle.proof_text.proofs.sparse.sparse_rows.Goals as goal

pub loop-row-preserved : goal.loop-row-preserved
loop-row-preserved g c =
    subst (AreSparseOf g.row.N _) (sym c.in_ok-push.ensures.ok)
    (sparse_more g.row.N c.args.rows.now c.loop-row.row-index c.row-item.result c.loop-row.sparse c.in_ok-sparse_row.field-0 c.loop-row-test.true
    c.row-item.is c.in_ok-sparse_row.ensures c.loop-row.invariant)

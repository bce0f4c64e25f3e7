use Rattle.row_engine.proofs.Marked.{changed_more}
use Rattle.row_engine.proofs.changed.changed_rows.Goals as goal

pub loop-row-preserved : goal.loop-row-preserved
loop-row-preserved g c =
    changed_more c.args.rows.now c.args.marks.now c.loop-row.row-index c.row-item.result c.loop-row.changed c.keep_marked.new.changed c.loop-row-test.true c.row-item.is c.loop-row.invariant c.in_ok-keep_marked.ensures

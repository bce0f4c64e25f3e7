use Rattle.lead_basis.proofs.Leading.{basis_rows}
use Rattle.report_read.proofs.Spans.{rows_more, same_more}
use Rattle.report_read.proofs.reduced.basis_from.Goals as goal

pub loop-row-preserved : goal.loop-row-preserved
loop-row-preserved g c =
    let i = c.loop-row.invariant in
    record {
      rows = rows_more c.args.rows.now c.loop-row.row-index c.row-item.result c.loop-row-test.true c.row-item.is i.rows c.known.ensures.row;
      same = same_more c.args.rows.now c.loop-row.row-index c.row-item.result c.loop-row-test.true c.row-item.is i.rows c.known.ensures.row
          c.loop-row.basis c.insert.new.self (basis_rows 17 c.loop-row.basis c.known-in-loop-row.ensures.basis) i.same c.in_ok-insert.ensures.same_module;
    }

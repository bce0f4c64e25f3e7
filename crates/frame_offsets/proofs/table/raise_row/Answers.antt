use Rattle.std.proofs.Common.{◌+◌, subst, sym}
use Rattle.frame_offsets.specs.Tables.{at_row, IsRowJoined}
use Rattle.frame_offsets.proofs.JoinedRows.{row_more}
use Rattle.frame_offsets.proofs.table.raise_row.Goals as goal

pub loop-register-preserved : goal.loop-register-preserved
loop-register-preserved c =
    let row = at_row c.args.row.now in
    subst (IsRowJoined c.args.table.now c.raise-risen.new.table c.args.i row (c.loop-register.register + 1)) (sym c.either-rose.ensures)
    (row_more c.args.table.now c.loop-register.table c.raise-risen.new.table c.args.i c.loop-register.register row c.loop-register.rose
    c.raise-risen.result c.loop-register.invariant c.loop-register-test.true c.requires c.raise-risen.ensures.after c.raise-risen.ensures.fell
    c.raise-risen.ensures.still)

use Rattle.frame_offsets.specs.Tables.{at_row, IsRowJoined}
use Rattle.frame_offsets.proofs.table.raise_row.Given as goal

abbrev pub invariant-loop-register : goal.invariant-loop-register
invariant-loop-register l = IsRowJoined l.fn.table l.table l.i (at_row l.row) l.register l.rose

use Rattle.std.proofs.Common.{take}
use Rattle.row_engine.specs.Turns.{AreChanged}
use Rattle.row_engine.proofs.changed.changed_rows.Given as goal

abbrev pub invariant-loop-row : goal.invariant-loop-row
invariant-loop-row g l = AreChanged (take l.row-index l.rows) l.marks l.changed

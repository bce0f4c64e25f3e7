-- The basis spans what the rows so far span.
use Rattle.std.proofs.Common.{Contains, take}
use Rattle.row_modules.specs.Modules.{AreRows, SameModule}
use Rattle.report_read.proofs.reduced.basis_from.Given as goal

abbrev pub invariant-loop-row : goal.invariant-loop-row
invariant-loop-row g l = record {
  rows : AreRows 17 (Contains (take l.row-index l.rows));
  same : SameModule 17 (Contains l.basis) (Contains (take l.row-index l.rows));
}

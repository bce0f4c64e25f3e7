use Rattle.std.proofs.Common.{◌≡◌, replicate}
use Rattle.row_engine.proofs.empty.empty_marks.Given as goal

abbrev pub invariant-loop : goal.invariant-loop
invariant-loop g l = l.marks.items ≡ replicate l.counter (replicate g.row.N 0)

use Rattle.row_engine.specs.Tables.{LeaveFirst}
use Rattle.row_engine.proofs.lookups.edges_out.Given as goal

abbrev pub invariant-loop-k : goal.invariant-loop-k
invariant-loop-k l = LeaveFirst l.program l.k l.out.items

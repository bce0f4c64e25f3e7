use Rattle.call_summaries.specs.Tables.{ReturnFirst}
use Rattle.call_summaries.proofs.lookups.calls_back.Given as goal

abbrev pub invariant-loop-k : goal.invariant-loop-k
invariant-loop-k l = ReturnFirst l.program l.k l.back.items

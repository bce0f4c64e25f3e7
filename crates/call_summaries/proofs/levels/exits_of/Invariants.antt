use Rattle.call_summaries.proofs.Moving.{MovedSoFar}
use Rattle.call_summaries.proofs.levels.exits_of.Given as goal

abbrev pub invariant-loop-proc : goal.invariant-loop-proc
invariant-loop-proc l = MovedSoFar l.program l.fn.levels.items l.levels.items l.exits.items l.proc-index

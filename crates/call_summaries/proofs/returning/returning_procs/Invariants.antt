use Rattle.call_summaries.proofs.Marking.{MarkedSoFar}
use Rattle.call_summaries.proofs.returning.returning_procs.Given as goal

abbrev pub invariant-loop-edge : goal.invariant-loop-edge
invariant-loop-edge l = MarkedSoFar l.program l.edge-index l.wanted.items

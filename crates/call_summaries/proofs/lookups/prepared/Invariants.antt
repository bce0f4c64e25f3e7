use Rattle.call_summaries.specs.Tables.{ArePrepared}
use Rattle.call_summaries.proofs.lookups.prepared.Given as goal

abbrev pub invariant-loop-edge : goal.invariant-loop-edge
invariant-loop-edge l = ArePrepared l.program l.edge-index l.prepared.items

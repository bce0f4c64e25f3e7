use Rattle.block_program.specs.Ends.{AreEnds}
use Rattle.block_program.proofs.inner_nodes.ends.Given as goal

abbrev pub invariant-loop-proc : goal.invariant-loop-proc
invariant-loop-proc l = AreEnds l.program l.proc-index l.table.items

use Rattle.block_program.specs.EdgesInto.{AreEdgesIntoBelow}
use Rattle.block_program.proofs.inner_nodes.inner_edges.Given as goal

abbrev pub invariant-loop-node : goal.invariant-loop-node
invariant-loop-node l = AreEdgesIntoBelow l.program l.node l.table.items

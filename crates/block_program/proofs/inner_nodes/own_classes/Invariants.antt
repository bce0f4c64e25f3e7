use Rattle.block_program.specs.EdgesInto.{AreOwnClasses}
use Rattle.block_program.proofs.inner_nodes.own_classes.Given as goal

abbrev pub invariant-loop-node : goal.invariant-loop-node
invariant-loop-node l = AreOwnClasses l.node l.classes.items

use Rattle.block_program.proofs.Walking.{Walked}
use Rattle.block_program.proofs.chain.behind.Given as goal

abbrev pub invariant-loop-at : goal.invariant-loop-at
invariant-loop-at l = Walked l.program l.merging l.node l.at l.path.items

abbrev pub decreases-loop-at : goal.decreases-loop-at
decreases-loop-at l = l.at

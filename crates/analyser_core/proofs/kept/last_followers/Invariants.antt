-- The last followers so far.
use Rattle.analyser_core.specs.States.{AreLast}
use Rattle.analyser_core.proofs.kept.last_followers.Given as goal

abbrev pub invariant-loop-node : goal.invariant-loop-node
invariant-loop-node l = AreLast l.program l.blocks.merging l.node l.last.items

use Rattle.proof_verify.specs.Points.{HaveStatesBelow}
use Rattle.proof_verify.proofs.points.states_of.Given as goal

abbrev pub invariant-loop-node : goal.invariant-loop-node
invariant-loop-node g l = HaveStatesBelow l.program l.blocks l.levels l.entries l.node l.kept.items

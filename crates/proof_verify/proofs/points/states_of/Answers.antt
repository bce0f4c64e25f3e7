use Rattle.proof_verify.proofs.Members.{kept_more}
use Rattle.proof_verify.proofs.points.states_of.Goals as goal

pub loop-node-preserved : goal.loop-node-preserved
loop-node-preserved g c =
    kept_more c.args.program.now c.args.blocks.now c.args.levels.now c.args.entries.now c.loop-node.node c.loop-node.kept.items c.push_basis.new.kept.items c.in_ok-states.states
    c.loop-node.invariant c.in_ok-push_basis.ensures c.in_ok-states.ensures

use Rattle.std.proofs.Common.{◌+◌, sym, subst}
use Rattle.block_program.specs.EdgesInto.{AreOwnClasses}
use Rattle.block_program.proofs.SimpleTables.{own_push}
use Rattle.block_program.proofs.inner_nodes.own_classes.Goals as goal

pub loop-node-preserved : goal.loop-node-preserved
loop-node-preserved c =
    let pushed = c.in_ok-push.ensures {u = tt} in
    subst (AreOwnClasses (c.loop-node.node + 1)) (sym pushed.items) (own_push c.loop-node.node c.loop-node.classes.items c.loop-node.invariant)

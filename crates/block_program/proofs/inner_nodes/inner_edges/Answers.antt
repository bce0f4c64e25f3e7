use Rattle.std.proofs.Common.{◌+◌, sym, subst, arith}
use Rattle.block_program.specs.EdgesInto.{AreEdgesIntoBelow}
use Rattle.block_program.proofs.Tables.{entered_push}
use Rattle.block_program.proofs.Ending.{end_told}
use Rattle.block_program.proofs.inner_nodes.inner_edges.Goals as goal

pub inner_edge-one-requires-clause-ends : goal.inner_edge-one-requires-clause-ends
inner_edge-one-requires-clause-ends c =
    end_told c.args.program.now c.in_ok-ends.ends.items (c.in_ok-ends.ensures {u = tt}) c.loop-node.node c.index-is_end.result.now (omega (arith, c.loop-node-test.true)) c.index-is_end.ensures

pub loop-node-preserved : goal.loop-node-preserved
loop-node-preserved c =
    let pushed = c.in_ok-push.ensures {u = tt} in
    subst (AreEdgesIntoBelow c.args.program.now (c.loop-node.node + 1)) (sym pushed.items)
    (entered_push c.args.program.now c.loop-node.node c.loop-node.table.items c.inner_edge-one.result c.inner_edge-one.ensures c.loop-node.invariant)

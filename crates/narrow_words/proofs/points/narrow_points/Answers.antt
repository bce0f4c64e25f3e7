use Rattle.std.proofs.Common.{arith}
use Rattle.analyser_core.proofs.NodeStates.{states_known}
use Rattle.narrow_words.proofs.PointsSoFar.{told_no_more, told_one}
use Rattle.narrow_words.proofs.points.narrow_points.Goals as goal
use Rattle.narrow_words.proofs.points.narrow_points.Goals.{then-node-count+in_ok-point+in_ok-push, else-node-count}

pub narrow_point-requires-clause-states : goal.narrow_point-requires-clause-states
narrow_point-requires-clause-states g c =
    rw c.states_at-states.ensures
    (states_known c.args.program.now c.requires.formed c.args.blocks.now c.requires.blocks c.args.reached.now c.in_ok-made.made c.requires.reached c.loop-node.node
    (omega (arith, c.loop-node-test.true)) c.in_ok-made.ensures.exact)

pub loop-node-preserved : goal.loop-node-preserved
loop-node-preserved g c =
    let program = c.args.program.now in
    let points = c.args.points.now in
    let names = c.args.tracked.now.names in
    let n = c.loop-node.node in
    let so_far = c.loop-node.invariant.told in
    record {
      kept = c.in_ok-keep.ensures {u = tt};
      told = elim c.if-node-count.branch [
        | then-node-count+in_ok-point+in_ok-push w ↦ rw w.told-is
            (told_one program points names n c.loop-node.told so_far _ w.in_ok-point.point (omega (arith, w.if-node-count.true, c.count.ensures.count))
            (w.in_ok-push.ensures {u = tt}) w.in_ok-point.ensures)
        | else-node-count w ↦ rw w.told-is
            (told_no_more program points names n c.loop-node.told so_far (omega (arith, w.if-node-count.false, c.count.ensures.count)))
      ];
    }

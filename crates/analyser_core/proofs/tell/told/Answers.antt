use Rattle.std.proofs.Common.{arith}
use Rattle.analyser_core.proofs.NodeStates.{states_known}
use Rattle.analyser_core.proofs.Telling.{made_counts, made_more, told_no_more, told_one}
use Rattle.analyser_core.proofs.tell.told.Goals as goal
use Rattle.analyser_core.proofs.tell.told.Goals.{then-node-count+in_ok-point+in_ok-push, else-node-count}

pub returns-in_err-made-clause-counts_no_more : goal.returns-in_err-made-clause-counts_no_more
returns-in_err-made-clause-counts_no_more g c =
    made_counts c.args.program.now c.requires.formed c.args.blocks.now c.requires.blocks c.args.steps.now c.loop-node.steps c.next_states.new.steps c.loop-node.node
    (omega (arith, c.loop-node-test.true)) c.loop-node.invariant.made c.next_states.ensures.counts_no_more

pub returns-in_err-point-clause-counts_no_more : goal.returns-in_err-point-clause-counts_no_more
returns-in_err-point-clause-counts_no_more g c =
    made_counts c.args.program.now c.requires.formed c.args.blocks.now c.requires.blocks c.args.steps.now c.loop-node.steps c.next_states.new.steps c.loop-node.node
    (omega (arith, c.loop-node-test.true)) c.loop-node.invariant.made c.next_states.ensures.counts_no_more

pub returns-in_err-push-clause-counts_no_more : goal.returns-in_err-push-clause-counts_no_more
returns-in_err-push-clause-counts_no_more g c =
    made_counts c.args.program.now c.requires.formed c.args.blocks.now c.requires.blocks c.args.steps.now c.loop-node.steps c.next_states.new.steps c.loop-node.node
    (omega (arith, c.loop-node-test.true)) c.loop-node.invariant.made c.next_states.ensures.counts_no_more

pub returns-in_err-keep-clause-counts_no_more : goal.returns-in_err-keep-clause-counts_no_more
returns-in_err-keep-clause-counts_no_more g c =
    made_counts c.args.program.now c.requires.formed c.args.blocks.now c.requires.blocks c.args.steps.now c.loop-node.steps c.next_states.new.steps c.loop-node.node
    (omega (arith, c.loop-node-test.true)) c.loop-node.invariant.made c.next_states.ensures.counts_no_more

pub told_at-requires-clause-states : goal.told_at-requires-clause-states
told_at-requires-clause-states g c =
    rw c.states_at-states.ensures
    (states_known c.args.program.now c.requires.formed c.args.blocks.now c.requires.blocks c.args.reached.now c.in_ok-made.made c.requires.reached c.loop-node.node
    (omega (arith, c.loop-node-test.true)) c.in_ok-made.ensures.exact)

pub told_at-requires-clause-related : goal.told_at-requires-clause-related
told_at-requires-clause-related g c = rw c.as_slice-then-node-count.ensures (c.loop-node.invariant.told.related)

pub loop-node-preserved : goal.loop-node-preserved
loop-node-preserved g c =
    let program = c.args.program.now in
    let points = c.args.points.now in
    let names = c.args.tracked.now.names in
    let n = c.loop-node.node in
    let so_far = c.loop-node.invariant.told in
    record {
      made = made_more program c.requires.formed c.args.blocks.now c.requires.blocks c.args.steps.now c.loop-node.steps c.next_states.new.steps n
          (omega (arith, c.loop-node-test.true)) c.loop-node.invariant.made c.next_states.ensures.counts_no_more c.in_ok-made.made c.known-in-loop-node.ensures.basis
          c.in_ok-made.ensures.exact c.next_states.ensures.never_falls c.in_ok-made.ensures.counts_rows;
      kept = c.in_ok-keep.ensures {u = tt};
      told = elim c.if-node-count.branch [
        | then-node-count+in_ok-point+in_ok-push w ↦ rw w.told-is
            (told_one program points names n c.loop-node.told so_far _ w.in_ok-point.point (omega (arith, w.if-node-count.true, c.count.ensures.count))
            (w.in_ok-push.ensures {u = tt}) w.in_ok-point.ensures.told w.in_ok-point.ensures.related)
        | else-node-count w ↦ rw w.told-is
            (told_no_more program points names n c.loop-node.told so_far (omega (arith, w.if-node-count.false, c.count.ensures.count)))
      ];
    }

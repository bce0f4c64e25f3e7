use Rattle.std.proofs.Common.{arith}
use Rattle.analyser_core.proofs.Keeping.{marks_all}
use Rattle.analyser_core.proofs.kept.last_followers.Goals as goal

pub returns : goal.returns
returns c = marks_all c.args.program.now c.args.blocks.now.merging c.loop-node.node c.loop-node.last.items (omega (arith, c.loop-node-test.false)) c.loop-node.invariant

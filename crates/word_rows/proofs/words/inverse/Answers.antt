use Rattle.std.proofs.Common.{arith}
use Rattle.word_rows.proofs.Newton.{turn}
use Rattle.word_rows.proofs.words.inverse.Goals as goal

pub loop-preserved : goal.loop-preserved
loop-preserved c = turn c.args.u c.loop.x c.loop.counter (omega arith) c.loop.invariant

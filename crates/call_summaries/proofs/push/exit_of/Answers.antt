use Rattle.call_summaries.proofs.ByNumber.{exit_below}
use Rattle.call_summaries.proofs.push.exit_of.Goals as goal

pub returns-clause-node : goal.returns-clause-node
returns-clause-node c = exit_below c.args.program.now c.args.callee c.as_slice.result.now _ c.requires.formed c.requires.callee c.as_slice.ensures

use Rattle.call_summaries.proofs.ByNumber.{slots_apart}
use Rattle.refute_path.proofs.turns.slots_at.Goals as goal

pub returns-clause-apart : goal.returns-clause-apart
returns-clause-apart c = slots_apart c.args.program.now c.args.node c.proc_of-owner.result c.as_slice.result.now _ c.requires.formed c.requires.node c.as_slice.ensures c.proc_of-owner.ensures

use Rattle.call_summaries.proofs.ByNumber.{slots_apart}
use Rattle.call_summaries.proofs.push.sets_at.Goals as goal

pub returns-clause-disjoint : goal.returns-clause-disjoint
returns-clause-disjoint c = slots_apart c.args.program.now c.args.node c.proc_of-owner.result c.as_slice.result.now _ c.requires.formed c.requires.node c.as_slice.ensures c.proc_of-owner.ensures

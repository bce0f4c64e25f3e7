use Rattle.reach_modules.proofs.Lookups.{slots_apart}
use Rattle.reach_modules.proofs.edges.sets_of.Goals as goal

pub returns-clause-disjoint : goal.returns-clause-disjoint
returns-clause-disjoint c = slots_apart c.args.program.now c.requires.formed c.args.p c.as_slice.result.now _ c.requires.proc c.as_slice.ensures

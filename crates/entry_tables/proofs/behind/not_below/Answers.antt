use Rattle.entry_tables.proofs.Keeping.{kept_step}
use Rattle.entry_tables.proofs.behind.not_below.Goals as goal

pub loop-slot-preserved : goal.loop-slot-preserved
loop-slot-preserved c = kept_step _ _ _ _ _ _ _ c.loop-slot-test.true c.in_ok-push_if.ensures c.loop-slot.invariant

use Rattle.entry_values.proofs.Loops.{in_left}
use Rattle.entry_values.proofs.slots.same_slots.Goals as goal

pub loop-slot-preserved : goal.loop-slot-preserved
loop-slot-preserved c = in_left _ _ _ _ c.loop-slot-test.true (c.is_kept.ensures c.if-not-is_kept.false) c.loop-slot.invariant

use Rattle.run_watch.specs.Marks.{KeepsBelow}
use Rattle.run_watch.proofs.marks.SlotMarks.unmark_slots.Given as goal

abbrev pub invariant-loop-name : goal.invariant-loop-name
invariant-loop-name l = KeepsBelow l.depth l.initial.self l.self

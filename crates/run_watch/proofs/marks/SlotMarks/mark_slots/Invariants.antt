use Rattle.std.proofs.Common.{All, take}
use Rattle.run_watch.specs.Marks.{IsMarkedName, Keeps}
use Rattle.run_watch.proofs.marks.SlotMarks.mark_slots.Given as goal

abbrev pub invariant-loop-name : goal.invariant-loop-name
invariant-loop-name l =
    Keeps l.initial.self l.self × All (IsMarkedName l.self l.depth l.activation) (take l.name-index l.names)

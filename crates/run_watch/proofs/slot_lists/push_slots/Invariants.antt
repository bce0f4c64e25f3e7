use Rattle.std.proofs.Common.{◌≡◌, ◌++◌, drop, filter_map}
use Rattle.std.specs.List.{enumerate_from}
use Rattle.run_watch.specs.Activations.{slot_in, slots_of}
use Rattle.run_watch.proofs.slot_lists.push_slots.Given as goal

abbrev pub invariant-loop-name : goal.invariant-loop-name
invariant-loop-name l =
    (l.position ≡ l.name-index)
    × (l.slots ++ filter_map (slot_in l.depth l.activation) (enumerate_from l.name-index (drop l.name-index l.names))
    ≡ l.initial.slots ++ slots_of l.names l.depth l.activation)

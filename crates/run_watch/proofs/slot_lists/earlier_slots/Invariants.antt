use Rattle.std.proofs.Common.{◌≡◌, ◌+◌, ◌++◌, drop}
use Rattle.run_watch.specs.Activations.{slots_from}
use Rattle.run_watch.proofs.slot_lists.earlier_slots.Given as goal

abbrev pub invariant-loop-activation : goal.invariant-loop-activation
invariant-loop-activation l =
    (l.depth ≡ l.activation-index + 1)
    × (l.slots ++ slots_from l.names (l.activation-index + 1) (drop l.activation-index l.activations)
    ≡ slots_from l.names 1 l.activations)

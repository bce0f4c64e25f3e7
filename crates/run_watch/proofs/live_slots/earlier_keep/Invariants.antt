use Rattle.std.proofs.Common.{◌≡◌, ◌+◌, drop}
use Rattle.std.specs.List.{list_any}
use Rattle.run_watch.specs.Activations.{slots_from}
use Rattle.run_watch.specs.Judges.{holds_kept}
use Rattle.run_watch.proofs.live_slots.earlier_keep.Given as goal

abbrev pub invariant-loop-activation : goal.invariant-loop-activation
invariant-loop-activation l =
    (l.depth ≡ l.activation-index + 1)
    × (list_any (holds_kept l.allowed.depth l.allowed.writable l.byte) (slots_from l.names (l.activation-index + 1) (drop l.activation-index l.activations))
    ≡ list_any (holds_kept l.allowed.depth l.allowed.writable l.byte) (slots_from l.names 1 l.activations))

use Rattle.std.proofs.Common.{◌-◌}
use Rattle.run_watch.specs.Activations.{slots_from}
use Rattle.run_watch.specs.Marks.{AreMarked}
use Rattle.run_watch.specs.Runs.{scene_of, steps_of, HasSeen}
use Rattle.run_watch.proofs.Going.{IsOn}
use Rattle.run_watch.proofs.runs.go_on.Given as goal

abbrev pub invariant-loop-machine : goal.invariant-loop-machine
invariant-loop-machine g l =
    IsOn
    (λ seen (a : _) (b : _). HasSeen seen
    ((goal.Watch-dyn g (a.vtable, a.value)).kind_of a.value) ((goal.Watch-dyn g (a.vtable, a.value)).state a.value)
    ((goal.Watch-dyn g (b.vtable, b.value)).kind_of b.value) ((goal.Watch-dyn g (b.vtable, b.value)).state b.value))
    (scene_of l.points l.offsets l.report l.code) l.limit (record { machine = l.initial.machine; stack = l.initial.stack })
    (record { machine = l.machine; stack = l.stack }) l.initial.watches l.watches
    × AreMarked l.marks (slots_from l.report.tracked.names 1 l.stack.earlier)

abbrev pub decreases-loop-machine : goal.decreases-loop-machine
decreases-loop-machine g l = l.limit - steps_of (record { machine = l.machine; stack = l.stack })

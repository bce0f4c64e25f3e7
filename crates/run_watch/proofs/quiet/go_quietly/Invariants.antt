use Rattle.std.proofs.Common.{◌-◌}
use Rattle.run_watch.specs.Runs.{scene_of, steps_of}
use Rattle.run_watch.specs.Quiet.{Quietly}
use Rattle.run_watch.proofs.quiet.go_quietly.Given as goal

abbrev pub invariant-loop-at : goal.invariant-loop-at
invariant-loop-at l =
    Quietly (scene_of l.points l.offsets l.report l.code) l.limit (record { machine = l.initial.machine; stack = l.initial.stack })
    (record { machine = l.machine; stack = l.stack })

abbrev pub decreases-loop-at : goal.decreases-loop-at
decreases-loop-at l = l.limit - steps_of (record { machine = l.machine; stack = l.stack })

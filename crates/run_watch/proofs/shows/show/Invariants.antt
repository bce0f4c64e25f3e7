use Rattle.std.proofs.Common.{[], ◌∷◌}
use Rattle.run_watch.specs.Moments.{moment_of}
use Rattle.run_watch.specs.Runs.{HasSeen, sight_of}
use Rattle.run_watch.proofs.Shown.{IsShownTo}
use Rattle.run_watch.proofs.shows.show.Given as goal

abbrev pub invariant-loop-watch : goal.invariant-loop-watch
invariant-loop-watch g l =
    IsShownTo
    (λ (a : _) (b : _). HasSeen (sight_of (moment_of l.ctx) l.rec ∷ [])
    ((goal.Watch-dyn g (a.vtable, a.value)).kind_of a.value) ((goal.Watch-dyn g (a.vtable, a.value)).state a.value)
    ((goal.Watch-dyn g (b.vtable, b.value)).kind_of b.value) ((goal.Watch-dyn g (b.vtable, b.value)).state b.value))
    l.watch-index l.initial.watches l.watches

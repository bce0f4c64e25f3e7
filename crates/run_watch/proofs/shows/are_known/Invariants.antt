use Rattle.std.proofs.Common.{All, take}
use Rattle.run_watch.specs.Quiet.{IsKnown}
use Rattle.run_watch.proofs.shows.are_known.Given as goal

abbrev pub invariant-loop-watch : goal.invariant-loop-watch
invariant-loop-watch g l =
    All (λ (b : _). IsKnown ((goal.Watch-dyn g (b.vtable, b.value)).kind_of b.value)) (take l.watch-index l.watches)

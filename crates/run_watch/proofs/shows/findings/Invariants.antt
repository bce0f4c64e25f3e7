use Rattle.std.proofs.Common.{◌≡◌, take}
use Rattle.std.specs.List.{AllZip}
use Rattle.run_watch.proofs.shows.findings.Given as goal

abbrev pub invariant-loop-watch : goal.invariant-loop-watch
invariant-loop-watch g l =
    AllZip (λ (b : _) f. f ≡ (goal.Watch-dyn g (b.vtable, b.value)).state b.value) (take l.watch-index l.watches) l.found

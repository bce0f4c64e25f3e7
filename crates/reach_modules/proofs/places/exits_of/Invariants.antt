use Rattle.std.proofs.Common.{◌≡◌, map, take}
use Rattle.reach_modules.proofs.places.exits_of.Given as goal

abbrev pub invariant-loop-proc : goal.invariant-loop-proc
invariant-loop-proc l = l.exits ≡ map (λ proc. proc.exit) (take l.proc-index l.proc-items)

use Rattle.std.proofs.Common.{◌≡◌, drop}
use Rattle.abi_verdicts.specs.Ends.{has_end}
use Rattle.abi_verdicts.proofs.live.has_end.Given as goal

abbrev pub invariant-loop-end : goal.invariant-loop-end
invariant-loop-end l = has_end l.ending l.p (drop l.end-index l.ends) ≡ has_end l.ending l.p l.ends

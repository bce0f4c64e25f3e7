use Rattle.std.proofs.Common.{◌≡◌, drop}
use Rattle.abi_verdicts.specs.Ends.{are_told}
use Rattle.abi_verdicts.proofs.live.are_told.Given as goal

abbrev pub invariant-loop-end : goal.invariant-loop-end
invariant-loop-end l = are_told l.ending (drop l.end-index l.ends) ≡ are_told l.ending l.ends

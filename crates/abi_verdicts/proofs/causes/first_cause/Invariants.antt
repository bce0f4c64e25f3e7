use Rattle.std.proofs.Common.{◌≡◌, drop}
use Rattle.abi_verdicts.specs.Verdicts.{first_cause}
use Rattle.abi_verdicts.proofs.causes.first_cause.Given as goal

abbrev pub invariant-loop-end : goal.invariant-loop-end
invariant-loop-end l = first_cause l.ending l.p l.r (drop l.end-index l.ends) ≡ first_cause l.ending l.p l.r l.ends

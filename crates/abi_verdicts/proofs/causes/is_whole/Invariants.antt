use Rattle.std.proofs.Common.{◌≡◌, drop}
use Rattle.abi_verdicts.specs.Verdicts.{is_whole}
use Rattle.abi_verdicts.proofs.causes.is_whole.Given as goal

abbrev pub invariant-loop-end : goal.invariant-loop-end
invariant-loop-end l = is_whole l.p (drop l.end-index l.ends) ≡ is_whole l.p l.ends

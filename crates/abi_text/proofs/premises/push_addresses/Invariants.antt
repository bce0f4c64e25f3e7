use Rattle.std.proofs.Common.{◌≡◌, ◌++◌, drop}
use Rattle.abi_text.specs.Premises.{addresses}
use Rattle.abi_text.proofs.premises.push_addresses.Given as goal

abbrev pub invariant-loop-one : goal.invariant-loop-one
invariant-loop-one l = l.text.items ++ addresses l.n (drop l.one-index l.assumed) ≡ l.initial.text.items ++ addresses l.n l.assumed

use Rattle.std.proofs.Common.{◌≡◌, drop}
use Rattle.abi_text.specs.Findings.{first_with}
use Rattle.abi_text.proofs.findings.first_with.Given as goal

abbrev pub invariant-loop-one : goal.invariant-loop-one
invariant-loop-one l = first_with l.cause (drop l.one-index l.found) ≡ first_with l.cause l.found

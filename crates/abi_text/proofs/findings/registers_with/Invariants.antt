use Rattle.std.proofs.Common.{◌≡◌, ◌++◌, drop}
use Rattle.abi_text.specs.Findings.{registers_with}
use Rattle.abi_text.proofs.findings.registers_with.Given as goal

abbrev pub invariant-loop-one : goal.invariant-loop-one
invariant-loop-one l = l.all.items ++ registers_with l.cause (drop l.one-index l.found) ≡ registers_with l.cause l.found

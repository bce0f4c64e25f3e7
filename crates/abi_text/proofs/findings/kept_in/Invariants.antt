use Rattle.std.proofs.Common.{◌≡◌, ◌++◌, drop}
use Rattle.abi_text.specs.Findings.{kept_in}
use Rattle.abi_text.proofs.findings.kept_in.Given as goal

abbrev pub invariant-loop-one : goal.invariant-loop-one
invariant-loop-one l = l.all.items ++ kept_in (drop l.one-index l.found) ≡ kept_in l.found

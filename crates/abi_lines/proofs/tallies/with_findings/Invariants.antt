use Rattle.std.proofs.Common.{◌≡◌, drop}
use Rattle.abi_lines.specs.Tallies.{with_findings}
use Rattle.abi_lines.proofs.tallies.with_findings.Given as goal

abbrev pub invariant-loop-one : goal.invariant-loop-one
invariant-loop-one l = with_findings l.all (drop l.one-index l.found) ≡ with_findings l.fn.tally l.found

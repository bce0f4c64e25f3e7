use Rattle.std.proofs.Common.{◌≡◌, ◌++◌, drop}
use Rattle.abi_lines.specs.Lines.{finding_lines}
use Rattle.abi_lines.proofs.writer.push_findings.Given as goal

abbrev pub invariant-loop-one : goal.invariant-loop-one
invariant-loop-one l = l.text.items ++ finding_lines (drop l.one-index l.found) ≡ l.initial.text.items ++ finding_lines l.found

use Rattle.std.proofs.Common.{◌≡◌, ◌++◌, drop}
use Rattle.abi_text.specs.Findings.{findings_text}
use Rattle.abi_text.proofs.findings.push_findings.Given as goal

abbrev pub invariant-loop-f : goal.invariant-loop-f
invariant-loop-f l =
    l.text.items ++ findings_text l.image l.rows l.why l.routines l.found (drop l.f-index l.found)
    ≡ l.initial.text.items ++ findings_text l.image l.rows l.why l.routines l.found l.found

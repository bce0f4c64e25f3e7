use Rattle.std.proofs.Common.{◌≡◌, ◌++◌, drop}
use Rattle.abi_text.specs.Findings.{way_steps}
use Rattle.abi_text.proofs.findings.push_steps.Given as goal

abbrev pub invariant-loop-b : goal.invariant-loop-b
invariant-loop-b l = l.text.items ++ way_steps l.rows l.p l.a (drop l.b-index l.walk) ≡ l.initial.text.items ++ way_steps l.rows l.p l.p l.walk

use Rattle.std.proofs.Common.{◌≡◌, drop}
use Rattle.abi_text.specs.Standings.{first_callee}
use Rattle.abi_text.proofs.standings.first_callee.Given as goal

abbrev pub invariant-loop-one : goal.invariant-loop-one
invariant-loop-one l = first_callee l.image l.rows (drop l.one-index l.found) ≡ first_callee l.image l.rows l.found

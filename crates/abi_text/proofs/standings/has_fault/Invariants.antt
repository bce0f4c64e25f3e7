use Rattle.std.proofs.Common.{◌≡◌, drop}
use Rattle.abi_text.specs.Standings.{has_fault}
use Rattle.abi_text.proofs.standings.has_fault.Given as goal

abbrev pub invariant-loop-one : goal.invariant-loop-one
invariant-loop-one l = has_fault l.r l.fault (drop l.one-index l.found) ≡ has_fault l.r l.fault l.found

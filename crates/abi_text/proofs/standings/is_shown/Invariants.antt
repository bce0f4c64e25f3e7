use Rattle.std.proofs.Common.{◌≡◌, drop}
use Rattle.abi_text.specs.Standings.{is_shown}
use Rattle.abi_text.proofs.standings.is_shown.Given as goal

abbrev pub invariant-loop-one : goal.invariant-loop-one
invariant-loop-one l = is_shown l.routines (drop l.one-index l.found) ≡ is_shown l.routines l.found

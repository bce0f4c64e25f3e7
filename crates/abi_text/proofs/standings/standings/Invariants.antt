use Rattle.std.proofs.Common.{◌≡◌, drop}
use Rattle.abi_text.specs.Standings.{standings_from, standings}
use Rattle.abi_text.proofs.standings.standings.Given as goal

abbrev pub invariant-loop-routine : goal.invariant-loop-routine
invariant-loop-routine l = standings_from l.all (drop l.routine-index l.routines) ≡ standings l.routines

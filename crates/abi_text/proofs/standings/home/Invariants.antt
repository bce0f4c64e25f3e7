use Rattle.std.proofs.Common.{◌≡◌, drop}
use Rattle.abi_text.specs.Standings.{home}
use Rattle.abi_text.proofs.standings.home.Given as goal

abbrev pub invariant-loop-routine : goal.invariant-loop-routine
invariant-loop-routine l = home l.a l.best (drop l.routine-index l.routines) ≡ home l.a 0 l.routines

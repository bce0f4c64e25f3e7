use Rattle.std.proofs.Common.{◌≡◌, drop}
use Rattle.abi_text.specs.Standings.{told_in}
use Rattle.abi_text.proofs.standings.told_in.Given as goal

abbrev pub invariant-loop-routine : goal.invariant-loop-routine
invariant-loop-routine l = told_in l.q l.r l.fault (drop l.routine-index l.routines) ≡ told_in l.q l.r l.fault l.routines

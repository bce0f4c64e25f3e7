use Rattle.std.proofs.Common.{◌≡◌, drop}
use Rattle.abi_lines.specs.Tallies.{with_routines, tally_of}
use Rattle.abi_lines.proofs.tallies.tally_of.Given as goal

abbrev pub invariant-loop-routine : goal.invariant-loop-routine
invariant-loop-routine l = with_routines l.tally (drop l.routine-index l.routines) ≡ tally_of l.routines

use Rattle.std.proofs.Common.{◌≡◌, ◌≤◌, drop}
use Rattle.abi_text.specs.Names.{widest}
use Rattle.abi_text.proofs.names.widest.Given as goal

abbrev pub invariant-loop-routine : goal.invariant-loop-routine
invariant-loop-routine l = (widest l.symbols l.all (drop l.routine-index l.routines) ≡ widest l.symbols l.width l.routines) × (l.all ≤ 32)

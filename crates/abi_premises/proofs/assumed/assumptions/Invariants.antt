use Rattle.std.proofs.Common.{◌≡◌, ◌-◌, ◌++◌, drop, length}
use Rattle.abi_premises.specs.Assumed.{assumed_in}
use Rattle.abi_premises.proofs.assumed.assumptions.Given as goal

abbrev pub invariant-loop-i : goal.invariant-loop-i
invariant-loop-i l = l.all ++ assumed_in l.image l.rows (drop l.i l.rows.points) ≡ assumed_in l.image l.rows l.rows.points

abbrev pub decreases-loop-i : goal.decreases-loop-i
decreases-loop-i l = length l.rows.points - l.i

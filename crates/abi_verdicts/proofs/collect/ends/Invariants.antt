use Rattle.std.proofs.Common.{◌≡◌, ◌-◌, ◌++◌, drop, length}
use Rattle.abi_verdicts.specs.Ends.{ends_in}
use Rattle.abi_verdicts.proofs.collect.ends.Given as goal

abbrev pub invariant-loop-i : goal.invariant-loop-i
invariant-loop-i l = l.all ++ ends_in l.image l.rows (drop l.i l.rows.points) ≡ ends_in l.image l.rows l.rows.points

abbrev pub decreases-loop-i : goal.decreases-loop-i
decreases-loop-i l = length l.rows.points - l.i

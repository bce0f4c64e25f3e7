use Rattle.std.proofs.Common.{ℕ, ◌-◌, ◌<◌, length, get_or}
use Rattle.entry_values.specs.Values.{unknown, FitsWord}
use Rattle.entry_tables.proofs.checks.all_fit.Given as goal

abbrev pub invariant-loop-r : goal.invariant-loop-r
invariant-loop-r l = (k : ℕ) → k < l.r → FitsWord (get_or l.values k unknown)

abbrev pub decreases-loop-r : goal.decreases-loop-r
decreases-loop-r l = length l.values - l.r

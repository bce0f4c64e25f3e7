use Rattle.std.proofs.Common.{◌≤◌, ◌-◌, length}
use Rattle.merged_heads.proofs.search.end_of.Given as goal

abbrev pub invariant-loop-at : goal.invariant-loop-at
invariant-loop-at l = l.at ≤ length l.edges

abbrev pub decreases-loop-at : goal.decreases-loop-at
decreases-loop-at l = length l.edges - l.at

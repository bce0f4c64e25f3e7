use Rattle.std.proofs.Common.{◌≤◌, length}
use Rattle.merged_heads.proofs.search.find.Given as goal

abbrev pub invariant-loop-node : goal.invariant-loop-node
invariant-loop-node l = l.first ≤ length l.edges

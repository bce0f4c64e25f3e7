use Rattle.std.proofs.Common.{◌≡◌, ◌≤◌, drop, length}
use Rattle.block_program.specs.EdgesInto.{assigns_behind}
use Rattle.block_program.proofs.chain.assigns_along.Given as goal

abbrev pub invariant-loop-left : goal.invariant-loop-left
invariant-loop-left l = (l.left ≤ length l.path) × (l.made ≡ assigns_behind l.program.edges (drop l.left l.path))

abbrev pub decreases-loop-left : goal.decreases-loop-left
decreases-loop-left l = l.left

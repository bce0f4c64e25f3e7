-- The terms in front of the rest are fine.
use Rattle.std.proofs.Common.{length}
use Rattle.row_read.specs.Fronts.{IsReadUpTo}
use Rattle.row_read.proofs.fronts.read_fronts.Given as goal

abbrev pub decreases-loop-word : goal.decreases-loop-word
decreases-loop-word l = length l.rest

abbrev pub invariant-loop-word : goal.invariant-loop-word
invariant-loop-word l = IsReadUpTo l.names l.procedure l.text l.rest l.place

-- Marks are closed from the place on.
use Rattle.needed_derivs.proofs.Closing.{MarkedFrom}
use Rattle.needed_derivs.proofs.marks.mark_needed.Given as goal

abbrev pub invariant-loop-place : goal.invariant-loop-place
invariant-loop-place l = MarkedFrom l.derivs l.path l.marks l.place

abbrev pub decreases-loop-place : goal.decreases-loop-place
decreases-loop-place l = l.place

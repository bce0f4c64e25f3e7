-- What marks those to come marks all.
use Rattle.needed_derivs.proofs.Marking.{IsMarkedSo}
use Rattle.needed_derivs.proofs.marks.mark_all.Given as goal

abbrev pub invariant-loop-number : goal.invariant-loop-number
invariant-loop-number l = IsMarkedSo l.numbers l.number-index l.initial.marks l.marks

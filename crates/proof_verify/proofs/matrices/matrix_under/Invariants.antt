use Rattle.word_rows.specs.Rows.{unit}
use Rattle.affine_prog.specs.Assignments.{unknown_count}
use Rattle.proof_verify.proofs.Under.{MadeUnder}
use Rattle.proof_verify.proofs.matrices.matrix_under.Given as goal

abbrev pub invariant-loop-assign : goal.invariant-loop-assign
invariant-loop-assign l = MadeUnder l.assigns (unit (unknown_count l.assigns) l.one) l.made l.assign-index l.seen

-- The words so far are those of the row up to here.
use Rattle.proof_text.proofs.Fronts.{IsUpTo}
use Rattle.proof_text.proofs.sparse.sparse_row.Given as goal

abbrev pub invariant-loop-i : goal.invariant-loop-i
invariant-loop-i g l = IsUpTo g.row.N l.row l.i l.words

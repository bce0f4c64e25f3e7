-- The rows so far are those of the rows that were gone through.
use Rattle.std.proofs.Common.{take}
use Rattle.proof_text.specs.Sparse.{AreSparseOf}
use Rattle.proof_text.proofs.sparse.sparse_rows.Given as goal

abbrev pub invariant-loop-row : goal.invariant-loop-row
invariant-loop-row g l = AreSparseOf g.row.N (take l.row-index l.rows) l.sparse

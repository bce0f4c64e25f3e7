use Rattle.std.proofs.Common.{take}
use Rattle.proof_verify.specs.RowBases.{IsBasisOfRows}
use Rattle.proof_verify.proofs.bases.basis_of.Given as goal

abbrev pub invariant-loop-row : goal.invariant-loop-row
invariant-loop-row g l = IsBasisOfRows 17 (take l.row-index l.rows) l.basis

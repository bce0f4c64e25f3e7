use Rattle.std.proofs.Common.{ℕ, List, ◌<◌, slice_index_or}
use Rattle.row_modules.specs.Bases.{IsLeadingBasis}
use Rattle.proof_verify.proofs.known.known_bases.Given as goal

abbrev pub invariant-loop-basis : goal.invariant-loop-basis
invariant-loop-basis g l = (k : ℕ) (d : List (List ℕ)) → k < l.basis-index → IsLeadingBasis g.row.N (slice_index_or l.bases k d)

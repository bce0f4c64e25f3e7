-- The bases so far.
use Rattle.std.proofs.Common.{ℕ, ◌<◌}
use Rattle.row_modules.specs.Bases.{IsLeadingBasis}
use Rattle.affine_prog.specs.Spans.{rows_at}
use Rattle.analyser_core.proofs.tell.known_states.Given as goal

abbrev pub invariant-loop-u : goal.invariant-loop-u
invariant-loop-u l = (k : ℕ) → k < l.u → IsLeadingBasis 17 (rows_at l.reached k)

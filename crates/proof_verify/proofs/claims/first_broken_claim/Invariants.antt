use Rattle.std.proofs.Common.{ℕ, ◌<◌}
use Rattle.proof_verify.specs.Verdicts.{ClaimPasses, nth_claim}
use Rattle.proof_verify.proofs.claims.first_broken_claim.Given as goal

abbrev pub invariant-loop-k : goal.invariant-loop-k
invariant-loop-k l = (j : ℕ) → j < l.k → ClaimPasses l.program l.blocks l.levels l.entries (nth_claim l.claims j)

use Rattle.std.proofs.Common.{ℕ, ◌<◌}
use Rattle.proof_verify.specs.Items.{entry_rule, nth_edge}
use Rattle.proof_verify.proofs.first.first_broken_entry.Given as goal

abbrev pub invariant-loop-k : goal.invariant-loop-k
invariant-loop-k l = (j : ℕ) → j < l.k → entry_rule l.program l.levels l.entries (nth_edge l.program j)

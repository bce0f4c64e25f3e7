use Rattle.std.proofs.Common.{ℕ, ◌<◌}
use Rattle.proof_rules.specs.Rules.{rule_2}
use Rattle.proof_verify.proofs.first.first_broken_opening.Given as goal

abbrev pub invariant-loop-p : goal.invariant-loop-p
invariant-loop-p l = (j : ℕ) → j < l.p → rule_2 l.program l.levels j

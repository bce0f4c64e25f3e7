use Rattle.std.proofs.Common.{◌≡◌, inl, inr, sym, subst, arith}
use Rattle.std.proofs.lemmas.Bool.{cases_lt}
use Rattle.proof_rules.specs.Rules.{rule_2}
use Rattle.proof_verify.proofs.first.first_broken_opening.Goals as goal

pub loop-p-preserved : goal.loop-p-preserved
loop-p-preserved c = λ j below. elim (cases_lt j c.loop-p.p) [
  | inl early ↦ c.loop-p.invariant j early
  | inr late ↦
      let same : j ≡ c.loop-p.p = omega arith in
      subst (rule_2 c.args.program.now c.args.levels.now) (sym same) (c.opening_passes.ensures.0 c.if-not-opening_passes.false)
]

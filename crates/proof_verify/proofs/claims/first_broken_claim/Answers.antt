use Rattle.std.proofs.Common.{◌≡◌, [], inl, inr, ap, sym, subst, ◌∙◌, arith}
use Rattle.std.proofs.lemmas.Bool.{cases_lt, false≢true}
use Rattle.std.proofs.lemmas.List.{get_or_default}
use Rattle.proof_verify.specs.declared.Claim.{Claim}
use Rattle.proof_verify.specs.Verdicts.{ClaimPasses, nth_claim}
use Rattle.proof_verify.proofs.claims.first_broken_claim.Goals as goal

abbrev no_claim : Claim
no_claim = record { node = 0; rows = [] }

pub loop-k-preserved : goal.loop-k-preserved
loop-k-preserved c = λ j below. elim (cases_lt j c.loop-k.k) [
  | inl early ↦ c.loop-k.invariant j early
  | inr late ↦
      let claims = c.args.claims.now in let k = c.loop-k.k in
      let same : j ≡ k = omega arith in
      subst (ClaimPasses c.args.program.now c.args.blocks.now c.args.levels.now c.args.entries.now)
      (c.index-claims-k.is ∙ get_or_default claims k c.index-claims-k.result no_claim c.loop-k-test.true ∙ ap (nth_claim claims) (sym same))
      (c.claim_passes.ensures.0 c.if-not-claim_passes.false)
]

pub returns-then-not-claim_passes : goal.returns-then-not-claim_passes
returns-then-not-claim_passes c =
    let claims = c.args.claims.now in let k = c.loop-k.k in record {
      within = c.loop-k-test.true;
      broken = λ passes. false≢true (sym c.if-not-claim_passes.true ∙ c.claim_passes.ensures.1
          (subst (ClaimPasses c.args.program.now c.args.blocks.now c.args.levels.now c.args.entries.now)
          (sym (c.index-claims-k.is ∙ get_or_default claims k c.index-claims-k.result no_claim c.loop-k-test.true)) passes));
      earlier = c.loop-k.invariant;
    }

use Rattle.std.proofs.Common.{All, Contains, refl, sym, ◌∙◌, arith}
use Rattle.std.proofs.lemmas.Bool.{false≢true}
use Rattle.row_modules.specs.Modules.{IsCombination}
use Rattle.map_modules.specs.Matrices.{product, apply}
use Rattle.proof_verify.proofs.Tried.{one_more, one_broken}
use Rattle.proof_verify.proofs.edges.states_in.Goals as goal

pub loop-m-preserved : goal.loop-m-preserved
loop-m-preserved c =
    one_more (λ m. All (λ b. All (λ s. IsCombination 17 (Contains c.args.basis.now) (apply (product b m) s)) c.args.states.now) c.args.matrices.now)
    c.args.rows.now c.loop-m.m-index c.m-item.result c.loop-m-test.true c.m-item.is c.loop-m.invariant (c.row_states_in.ensures.0 c.if-not-row_states_in.false)

pub returns-then-not-row_states_in : goal.returns-then-not-row_states_in
returns-then-not-row_states_in c = (
  λ h. absurd (false≢true h),
  λ all. absurd (one_broken (λ m. All (λ b. All (λ s. IsCombination 17 (Contains c.args.basis.now) (apply (product b m) s)) c.args.states.now) c.args.matrices.now)
      c.args.rows.now c.loop-m.m-index c.m-item.result c.loop-m-test.true c.m-item.is
      (λ each. false≢true (sym c.if-not-row_states_in.true ∙ c.row_states_in.ensures.1 each)) all),
)

pub returns : goal.returns
returns c = (λ t k d below. c.loop-m.invariant k d (omega (arith, below, c.loop-m-test.false)), λ all. refl)

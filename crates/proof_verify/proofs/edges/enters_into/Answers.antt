use Rattle.std.proofs.Common.{Contains, sym, subst}
use Rattle.row_modules.specs.Modules.{IsCombination}
use Rattle.map_modules.specs.Matrices.{apply}
use Rattle.proof_verify.specs.Tests.{AreSimpleMatrices}
use Rattle.proof_verify.proofs.Tried.{tried_inside, both_ways}
use Rattle.proof_verify.proofs.edges.enters_into.Goals as goal

pub returns : goal.returns
returns c =
    let before = c.args.before.now in
    let are : AreSimpleMatrices before c.as_slice.result.now = subst (AreSimpleMatrices before) (sym c.as_slice.ensures) c.in_ok-matrices.ensures in
    both_ways c.states_in.ensures (tried_inside before c.as_slice.result.now c.args.rows.now c.args.states.now are
    (λ s n. IsCombination 17 (Contains c.args.basis.now) (apply n s)))

use Rattle.std.proofs.Common.{Contains, sym, subst}
use Rattle.row_modules.specs.Modules.{IsCombination}
use Rattle.proof_verify.specs.Tests.{AreSimpleMatrices}
use Rattle.proof_verify.proofs.Tried.{tried, both_ways}
use Rattle.proof_verify.proofs.edges.steps_into.Goals as goal

pub returns : goal.returns
returns c =
    let assigns = c.args.assigns.now in
    let are : AreSimpleMatrices assigns c.as_slice.result.now = subst (AreSimpleMatrices assigns) (sym c.as_slice.ensures) c.in_ok-matrices.ensures in
    both_ways c.products_in.ensures (tried assigns c.as_slice.result.now c.args.rows.now are (λ m n. IsCombination 289 (Contains c.args.basis.now) n))

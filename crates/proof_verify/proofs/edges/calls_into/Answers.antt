use Rattle.std.proofs.Common.{Contains, sym, subst}
use Rattle.row_modules.specs.Modules.{IsCombination}
use Rattle.map_modules.specs.Matrices.{product, linear_extension}
use Rattle.proof_verify.specs.Tests.{AreSimpleMatrices}
use Rattle.proof_verify.proofs.Tried.{tried_outside, both_ways}
use Rattle.proof_verify.proofs.edges.calls_into.Goals as goal

pub returns : goal.returns
returns c =
    let before = c.args.before.now in
    let are : AreSimpleMatrices before c.as_slice.result.now = subst (AreSimpleMatrices before) (sym c.as_slice.ensures) c.in_ok-matrices.ensures in
    both_ways c.calls_in.ensures (tried_outside before c.as_slice.result.now c.args.rows.now c.args.callees.now are
    (λ callee n. IsCombination 289 (Contains c.args.basis.now) (product (linear_extension c.args.registers c.args.slots callee) n)))

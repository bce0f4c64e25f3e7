use Rattle.std.proofs.Common.{sym, subst}
use Rattle.std.proofs.lemmas.Result.{IfOk-weaker}
use Rattle.proof_verify.specs.Points.{AreProducts, IsHeadBasis}
use Rattle.proof_verify.specs.RowBases.{IsBasisOfRows}
use Rattle.proof_verify.proofs.Members.{product_rows, head_basis}
use Rattle.proof_verify.proofs.points.head_states.Goals as goal

pub basis_of-requires : goal.basis_of-requires
basis_of-requires g c = rw c.as_slice.ensures (product_rows c.rows.result.now c.rows-2.result.now c.in_ok-rows.rows c.in_ok-rows.ensures)

pub returns : goal.returns
returns g c =
    let are = subst (AreProducts c.rows.result.now c.rows-2.result.now) (sym c.as_slice.ensures) c.in_ok-rows.ensures in
    rw (sym c.rows.ensures, sym c.rows-2.ensures)
    (IfOk-weaker c.basis_of.result (IsBasisOfRows 17 c.as_slice.result.now) (IsHeadBasis c.rows.result.now c.rows-2.result.now)
    (λ basis h. head_basis c.rows.result.now c.rows-2.result.now c.as_slice.result.now basis are h) c.basis_of.ensures)

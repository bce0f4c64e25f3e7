use Rattle.std.proofs.Common.{subst}
use Rattle.std.proofs.lemmas.List.{take_all}
use Rattle.proof_verify.specs.RowBases.{IsBasisOfRows}
use Rattle.proof_verify.proofs.Basing.{more_rows, no_rows}
use Rattle.proof_verify.proofs.bases.basis_of.Goals as goal

pub loop-row-preserved : goal.loop-row-preserved
loop-row-preserved g c =
    more_rows 17 c.args.rows.now c.requires c.loop-row.row-index c.row-item.result c.loop-row-test.true c.row-item.is c.loop-row.basis c.insert.new.self
    c.loop-row.invariant c.in_ok-insert.ensures.adds.between.basis c.in_ok-insert.ensures.same_module

pub loop-row-init : goal.loop-row-init
loop-row-init g c = rw c.new-basis.ensures (no_rows 17)

pub returns : goal.returns
returns g c = subst (λ xs. IsBasisOfRows 17 xs c.loop-row.basis) (take_all c.loop-row.row-index c.args.rows.now c.loop-row-test.false) c.loop-row.invariant

use Rattle.std.proofs.Common.{◌-◌, Contains, length, sym, subst, arith}
use Rattle.std.proofs.lemmas.List.Elements.{Contains-get_or}
use Rattle.lead_basis.proofs.Leading.{basis_rows}
use Rattle.lead_basis.proofs.whole.mark.Goals as goal

pub loop-i-preserved : goal.loop-i-preserved
loop-i-preserved g c =
    let rows = c.args.rows.now in
    let below = c.loop-i-test.true in
    let row = c.index-rows-rows.result in
    let there : Contains rows row = subst (Contains rows) (sym c.index-rows-rows.is) (Contains-get_or rows (length rows - 1 - c.loop-i.i) row (omega arith)) in
    c.mark_lead.ensures rows (basis_rows g.row.N rows c.requires.basis) there c.loop-i.invariant

use Rattle.lead_basis.proofs.Mirroring.{mirrors_more}
use Rattle.lead_basis.proofs.mirror.mirrored_basis.Goals as goal

pub loop-row-preserved : goal.loop-row-preserved
loop-row-preserved g c =
    let told = c.in_ok-insert.ensures in
    mirrors_more c.args.visible c.args.rows.now c.loop-row.basis c.insert.new.self c.row-item.result c.mirrored_row.result c.loop-row.row-index c.loop-row-test.true c.row-item.is
    c.known.ensures.row c.mirrored_row.ensures told.adds.between.basis told.same_module c.loop-row.invariant

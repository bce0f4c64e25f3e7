use Rattle.lead_basis.proofs.Taking.{remainder_none, remainder_more, leads_at}
use Rattle.lead_basis.proofs.multiples.take_multiples.Goals as goal

pub loop-by-init : goal.loop-by-init
loop-by-init g c = remainder_none g.row.N c.args.row.now c.known.ensures.row

pub loop-by-preserved : goal.loop-by-preserved
loop-by-preserved g c =
    let below = c.loop-by-test.true in
    let leads = leads_at g.row.N c.args.basis.now c.loop-by.by-index c.by-item.result c.requires below in
    remainder_more g.row.N c.args.basis.now c.requires c.loop-by.by-index c.args.row.now c.loop-by.row c.take_multiple.new.row c.by-item.result below c.by-item.is c.loop-by.invariant
    (c.take_multiple.ensures (rw c.by-item.is leads.within))

use Rattle.std.proofs.Common.{◌∙◌}
use Rattle.run_watch.proofs.Nearby.{kept_among_last}
use Rattle.run_watch.proofs.details.kept_byte.Goals as goal

pub returns-then-is_near : goal.returns-then-is_near
returns-then-is_near c = c.first_kept.ensures

pub returns-else-is_near : goal.returns-else-is_near
returns-else-is_near c =
    c.first_kept_by_last.ensures
    ∙ kept_among_last _ c.args.ctx.now.depth c.args.ctx.now.writable c.args.store.now (c.is_near.ensures c.if-is_near.false)

use Rattle.run_watch.proofs.Nearby.{no_code_changed}
use Rattle.run_watch.proofs.details.code_byte.Goals as goal

pub returns-then-is_near : goal.returns-then-is_near
returns-then-is_near c = c.first_code.ensures

pub returns-else-is_near : goal.returns-else-is_near
returns-else-is_near c = no_code_changed _ c.args.store.now (c.is_near.ensures c.if-is_near.false)

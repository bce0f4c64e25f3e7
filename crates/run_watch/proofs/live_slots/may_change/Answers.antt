use Rattle.std.proofs.Common.{◌∙◌}
use Rattle.std.specs.List.{enumerate_from}
use Rattle.run_watch.specs.Activations.{slot_in}
use Rattle.run_watch.specs.Quiet.{may_change}
use Rattle.run_watch.proofs.Keeping.{any_made}
use Rattle.run_watch.proofs.live_slots.may_change.Goals as goal

pub returns : goal.returns
returns c =
    c.any_may_change.ensures
    ∙ any_made (may_change c.args.allowed.depth c.args.allowed.writable c.args.address) (slot_in c.args.depth c.args.activation.now)
    (enumerate_from 0 c.args.names.now)

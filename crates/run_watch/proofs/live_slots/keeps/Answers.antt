use Rattle.std.proofs.Common.{◌∙◌}
use Rattle.std.specs.List.{enumerate_from}
use Rattle.run_watch.specs.Activations.{slot_in}
use Rattle.run_watch.specs.Judges.{holds_kept}
use Rattle.run_watch.proofs.Keeping.{any_made}
use Rattle.run_watch.proofs.live_slots.keeps.Goals as goal

pub returns : goal.returns
returns c =
    c.any_keeps.ensures
    ∙ any_made (holds_kept c.args.allowed.depth c.args.allowed.writable c.args.byte) (slot_in c.args.depth c.args.activation.now)
    (enumerate_from 0 c.args.names.now)

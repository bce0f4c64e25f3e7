use Rattle.std.proofs.Common.{subst}
use Rattle.run_watch.specs.Runs.{IsPut}
use Rattle.run_watch.proofs.Gathering.{one_more}
use Rattle.run_watch.proofs.instructions.instructions.Goals as goal

pub loop-i-preserved : goal.loop-i-preserved
loop-i-preserved c =
    one_more c.args.points.now c.loop-i.i c.code.result c.loop-i.code.items c.put.new.code.items c.known.ensures c.code.ensures
    c.loop-i.invariant
    (subst (λ at. IsPut c.loop-i.code.items at c.put.new.code.items) c.instruction_of.ensures c.in_ok-put.ensures)

use Rattle.run_watch.proofs.Beginning.{run_of, verdict_by}
use Rattle.run_watch.proofs.Seeing.{zip_then}
use Rattle.run_watch.proofs.checks.watched.Goals as goal

pub returns : goal.returns
returns g c =
    let t = c.in_ok-stop.ensures in (
      t.0,
      run_of c.args.image.now c.args.points.now c.args.offsets.now c.args.report.now c.args.start c.args.limit c.in-Ok.code
          c.in_ok-machine.machine c.begun-stack.result c.entry.result c.closing-here.result.regs t.0 c.closing.result.index _ c.in_ok-stop.stop
          c.in-Ok.ensures c.in_ok-machine.ensures.starts c.in_ok-machine.ensures.registers c.in_ok-machine.ensures.memory
          c.in_ok-machine.ensures.made c.entry.ensures c.requires.points.entry_is c.closing-here.ensures.regs c.begun-stack.ensures.earlier
          c.begun-stack.ensures.last c.closing.ensures.index t.1,
      zip_then _ _ _ _ _ _ (λ x y z has is. verdict_by t.0 _ _ _ _ z has is) t.2 c.in-Ok-findings.ensures,
    )

use Rattle.run_watch.proofs.Shown.{read_more}
use Rattle.run_watch.proofs.shows.findings.Goals as goal

pub loop-watch-preserved : goal.loop-watch-preserved
loop-watch-preserved g c =
    read_more _ c.args.watches.now c.loop-watch.found c.push.new.self c.loop-watch.watch-index c.watch-item.result c.found_of.result
    c.loop-watch-test.true c.watch-item.is c.loop-watch.invariant c.found_of.ensures c.in_ok-push.ensures.ok

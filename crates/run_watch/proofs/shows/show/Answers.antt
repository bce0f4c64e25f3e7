use Rattle.run_watch.proofs.Shown.{shown_more}
use Rattle.run_watch.proofs.shows.show.Goals as goal

pub loop-watch-preserved : goal.loop-watch-preserved
loop-watch-preserved g c =
    shown_more _ c.loop-watch.watch-index c.args.watches.now c.loop-watch.watches c.watch-item.result c.show_one.new.watch
    c.loop-watch.auto.watches c.loop-watch-test.true c.show_one.ensures c.loop-watch.invariant

use Rattle.std.proofs.Common.{refl, arith}
use Rattle.run_watch.specs.Quiet.{IsKnown}
use Rattle.run_watch.proofs.Shown.{all_more, all_taken}
use Rattle.run_watch.proofs.shows.are_known.Goals as goal

pub loop-watch-preserved : goal.loop-watch-preserved
loop-watch-preserved g c =
    all_more (λ (b : _). IsKnown ((goal.Watch-dyn g (b.vtable, b.value)).kind_of b.value)) c.args.watches.now c.loop-watch.watch-index c.watch-item.result c.loop-watch-test.true c.watch-item.is c.loop-watch.invariant
    (c.is_known.ensures.0 c.if-not-is_known.false)

pub returns : goal.returns
returns g c = (
  λ true. all_taken (λ (b : _). IsKnown ((goal.Watch-dyn g (b.vtable, b.value)).kind_of b.value)) c.args.watches.now c.loop-watch.watch-index (omega (arith, c.loop-watch-test.false)) c.loop-watch.invariant,
  λ all. refl,
)

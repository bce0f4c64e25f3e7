use Rattle.std.proofs.Common.{◌<◌, length, length-append, ap, refl, arith}
use Rattle.flow_points.specs.Walks.{begin}
use Rattle.flow_points.proofs.Closing.{closed_more}
use Rattle.flow_points.proofs.Reaching.{still_there}
use Rattle.flow_points.proofs.walks.reached.Goals as goal

pub add-requires-clause-reached : goal.add-requires-clause-reached
add-requires-clause-reached c = begin _ refl

pub loop-at-preserved : goal.loop-at-preserved
loop-at-preserved c =
    let adds = c.in_ok-follow.ensures.adds in
    let lt : c.loop-at.at < length c.loop-at.sites.entries = omega (arith, c.len.ensures.len) in
    record {
      sites = adds.sites;
      begins = still_there _ _ adds.more _ adds.after c.loop-at.invariant.begins;
      closed = closed_more _ _ adds.more c.loop-at.at adds.after lt c.loop-at.invariant.closed c.in_ok-follow.ensures.there;
      within = omega (arith, length-append c.loop-at.sites.entries adds.more, ap length adds.after);
    }

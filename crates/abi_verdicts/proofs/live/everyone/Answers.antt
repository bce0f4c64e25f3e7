use Rattle.std.proofs.Common.{◌≤◌, length, arith}
use Rattle.abi_verdicts.proofs.Telling.{among_all_more, told_by_each}
use Rattle.abi_verdicts.proofs.live.everyone.Goals as goal

pub loop-end-preserved : goal.loop-end-preserved
loop-end-preserved c = λ j e within is. among_all_more c.args.ends.now c.loop-end.end-index _ _ _ c.in_ok-push.ensures c.loop-end.invariant j e within is

pub returns : goal.returns
returns c =
    let past : length c.args.ends.now ≤ c.loop-end.end-index = omega (arith, c.loop-end-test.false) in
    told_by_each _ c.args.ends.now c.loop-end.end-index past c.loop-end.invariant

use Rattle.std.proofs.Common.{ℕ, ◌<◌, subst}
use Rattle.abi_verdicts.proofs.Collecting.{one_end_more}
use Rattle.abi_verdicts.proofs.collect.ends.Goals as goal

pub loop-i-preserved : goal.loop-i-preserved
loop-i-preserved c =
    one_end_more c.args.image.now c.args.rows.now c.args.rows.now.points c.loop-i.i _ _ _ _ (subst (λ (n : ℕ). c.loop-i.i < n) c.len.ensures c.loop-i-test.true) c.in_ok-end.ensures c.in_ok-push_if.ensures c.loop-i.invariant

use Rattle.std.proofs.Common.{ℕ, ◌<◌, subst}
use Rattle.abi_premises.proofs.Listing.{assumed_more}
use Rattle.abi_premises.proofs.assumed.assumptions.Goals as goal

pub loop-i-preserved : goal.loop-i-preserved
loop-i-preserved c =
    assumed_more c.args.image.now c.args.rows.now c.args.rows.now.points c.loop-i.i _ _ _ (subst (λ (n : ℕ). c.loop-i.i < n) c.len.ensures c.loop-i-test.true) c.in_ok-add_by_number.ensures c.loop-i.invariant

use Rattle.std.proofs.Common.{bit_or, ap, subst}
use Rattle.row_modules.specs.Positions.{with_constant, IsZeroOutside}
use Rattle.refute_path.proofs.Asked.{zero_outside, zero_more}
use Rattle.refute_path.proofs.asking.is_visible.Goals as goal

pub loop-k-preserved : goal.loop-k-preserved
loop-k-preserved c =
    zero_more (bit_or c.args.program.now.registers c.slots_at.result) c.args.row.now c.loop-k.k c.loop-k.invariant (c.is_zero_or_in.ensures c.if-not-is_zero_or_in.false)

pub returns : goal.returns
returns c =
    λ yes.
    subst (λ s. IsZeroOutside (with_constant s) c.args.row.now) (ap (bit_or c.args.program.now.registers) c.slots_at.ensures.slots)
    (zero_outside (bit_or c.args.program.now.registers c.slots_at.result) c.args.row.now c.loop-k.k c.loop-k-test.false c.known.ensures.row c.loop-k.invariant)

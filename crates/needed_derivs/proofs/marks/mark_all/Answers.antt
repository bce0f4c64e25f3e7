use Rattle.needed_derivs.proofs.Marking.{marked_more}
use Rattle.needed_derivs.proofs.marks.mark_all.Goals as goal

pub loop-number-preserved : goal.loop-number-preserved
loop-number-preserved c =
    marked_more c.args.numbers.now c.loop-number.number-index c.args.marks.now c.loop-number.marks c.loop-number-test.true c.requires c.loop-number.invariant

use Rattle.std.proofs.Common.{sym, subst}
use Rattle.abi_routines.specs.Findings.{AreRoutines}
use Rattle.abi_routines.proofs.Listing.{routines_more, told_more}
use Rattle.abi_routines.proofs.findings.each.Goals as goal

pub loop-told-preserved : goal.loop-told-preserved
loop-told-preserved c = (
  subst (AreRoutines c.args.image.now c.args.rows.now c.args.ends.now c.args.ending.now c.args.registers.now) (sym c.in_ok-push_routine.ensures)
      (routines_more c.args.image.now c.args.rows.now c.args.ends.now c.args.ending.now c.args.registers.now _ _ c.loop-told.invariant.0 c.in_ok-one.ensures.told),
  told_more c.args.rows.now.procedures _ c.as_slice-told-items.ensures c.loop-told.told-index _ _ _ _ _ c.loop-told-test.true c.in_ok-push_routine.ensures c.in_ok-one.ensures.procedure c.loop-told.invariant.1,
)

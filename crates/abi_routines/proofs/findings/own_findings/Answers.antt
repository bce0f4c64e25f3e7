use Rattle.std.proofs.Common.{sym, subst}
use Rattle.entry_tables.specs.Settling.{table_of}
use Rattle.abi_routines.specs.Findings.{AreFindings}
use Rattle.abi_routines.proofs.Listing.{found_all, found_one, asked_more}
use Rattle.abi_routines.proofs.findings.own_findings.Goals as goal

pub loop-r-preserved : goal.loop-r-preserved
loop-r-preserved c =
    let t = table_of c.args.image.now c.args.rows.now in (
      subst (AreFindings t c.args.ends.now c.args.ending.now) (sym c.in_ok-push.ensures)
          (found_all t c.args.ends.now c.args.ending.now _ _ c.loop-r.invariant.0 (found_one t c.args.ends.now c.args.ending.now _ c.in_ok-one.ensures.told)),
      asked_more c.args.p c.args.registers.now c.loop-r.r-index _ _ _ _ _ c.loop-r-test.true c.in_ok-push.ensures c.in_ok-one.ensures.asked c.loop-r.invariant.1,
    )

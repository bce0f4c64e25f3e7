use Rattle.std.proofs.Common.{◌∙◌, arith}
use Rattle.entry_tables.specs.Tables.{value_returned}
use Rattle.entry_tables.specs.Settling.{listed}
use Rattle.entry_tables.proofs.Tabling.{set_length, put_more, ends}
use Rattle.entry_tables.proofs.behind.values_returned.Goals as goal

pub returns : goal.returns
returns c = ends _ (value_returned (listed c.args.keeps.now) c.args.s.now c.args.a c.args.next) c.loop-r.r c.loop-r.invariant.0 c.loop-r.invariant.1 (omega (arith, c.loop-r-test.false))

pub loop-r-preserved : goal.loop-r-preserved
loop-r-preserved c = (
  set_length _ _ _ ∙ c.loop-r.invariant.0,
  put_more _ _ c.loop-r.r _ (value_returned (listed c.args.keeps.now) c.args.s.now c.args.a c.args.next) c.loop-r.invariant.0 c.from.ensures
      (omega (arith, c.loop-r-test.true)) c.value_returned.ensures c.loop-r.invariant.1,
)

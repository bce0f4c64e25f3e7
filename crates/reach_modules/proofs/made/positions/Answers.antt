use Rattle.std.proofs.Common.{◌≡◌, arith}
use Rattle.reach_modules.proofs.Positions.{position_more}
use Rattle.reach_modules.proofs.made.positions.Goals as goal

pub loop-i-preserved : goal.loop-i-preserved
loop-i-preserved c = position_more c.args.set c.loop-i.i c.loop-i.positions c.loop-i.invariant c.has.result c.add_where.new.positions c.has.ensures c.in_ok-add_where.ensures

pub returns : goal.returns
returns c = let e : c.loop-i.i ≡ 16 = let a = c.loop-i.auto.i-end in let b = c.loop-i-test.false in omega arith in rw e at c.loop-i.invariant

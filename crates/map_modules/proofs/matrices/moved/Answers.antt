use Rattle.std.proofs.Common.{◌/◌, ◌∙◌}
use Rattle.map_modules.proofs.Rowwise.{added_up_none, next_row, next_term, added_up}
use Rattle.map_modules.proofs.matrices.moved.Goals as goal

pub loop-i-init : goal.loop-i-init
loop-i-init g c = added_up_none _ _ _ _

pub loop-i-preserved : goal.loop-i-preserved
loop-i-preserved g c =
    next_row (g.row.N / 17) g.row.N c.args.m.now c.args.v.now c.loop-i.i c.loop-l.l c.loop-l.words c.loop-l-test.false c.loop-l.auto.l-end
    c.loop-l.invariant

pub loop-l-preserved : goal.loop-l-preserved
loop-l-preserved g c =
    next_term (g.row.N / 17) g.row.N c.args.m.now c.args.v.now c.loop-i.i c.loop-l.l c.get.result c.loop-l.words _ c.get.ensures c.loop-l.invariant
    c.add_times_row.ensures

pub returns : goal.returns
returns g c = c.from_words.ensures ∙ added_up (g.row.N / 17) g.row.N c.args.m.now c.args.v.now c.loop-i.words c.loop-i.i c.requires c.loop-i-test.false c.loop-i.invariant

use Rattle.std.proofs.Common.{◌∙◌}
use Rattle.order_answers.proofs.PointsListed.{listed_more}
use Rattle.order_answers.proofs.points_list.write_list.Goals as goal

pub loop-i-preserved : goal.loop-i-preserved
loop-i-preserved c =
    listed_more c.loop-i.text.items _ _ c.loop-i.before c.args.points.now.points c.loop-i.i c.code-code.result c.code-code.ensures
    c.in_ok-push_opening.ensures c.in_ok-push_code.ensures
    ∙ c.loop-i.invariant

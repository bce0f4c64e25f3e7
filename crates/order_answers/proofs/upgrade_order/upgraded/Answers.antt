use Rattle.std.proofs.Common.{refl}
use Rattle.order_answers.specs.ReportAnswers as answers
use Rattle.order_answers.specs.ReportAnswers.{not_upgraded}
use Rattle.order_answers.proofs.upgrade_order.upgraded.Goals as goal

pub returns-in-Ok-upgrade_uncounted : goal.returns-in-Ok-upgrade_uncounted
returns-in-Ok-upgrade_uncounted c =
    answers.IsUpgradeAnswer.upgraded 0 _ c.args.old c.in-Ok-upgrade_uncounted.new c.requires c.in-Ok-upgrade_uncounted.ensures refl
    c.in_ok-write_report-in-Ok-upgrade_uncounted.ensures

pub returns : goal.returns
returns c =
    let (line, other) = c.in_ok-line_of-in-Err.ensures in
    not_upgraded _ _ c.args.old c.in-Err.refusal c.requires c.in-Err.ensures other c.status_of.ensures line

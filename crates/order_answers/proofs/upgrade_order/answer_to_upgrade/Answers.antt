use Rattle.std.proofs.Common.{refl}
use Rattle.order_answers.specs.ReportAnswers.{no_report}
use Rattle.order_answers.proofs.upgrade_order.answer_to_upgrade.Goals as goal

pub returns-in_ok-report_line-in-Err : goal.returns-in_ok-report_line-in-Err
returns-in_ok-report_line-in-Err c =
    no_report 6 _ c.in-Err.refusal c.in-Err.ensures.told c.in_ok-report_line-in-Err.ensures.refused refl
    c.in_ok-report_line-in-Err.ensures.line

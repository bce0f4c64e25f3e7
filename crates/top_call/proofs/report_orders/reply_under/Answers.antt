use Rattle.order_answers.specs.ReportAnswers as answers
use Rattle.order_answers.specs.ReportAnswers.{IsRun, IsUnread}
use Rattle.call_ends.proofs.Laws.{both_weaker, reply_weaker}
use Rattle.top_call.proofs.OverBoth.{run_over}
use Rattle.call_ends.proofs.Laws.{reply_answers}
use Rattle.top_call.proofs.report_orders.reply_under.Goals as goal

pub returns-in-Ok : goal.returns-in-Ok
returns-in-Ok g c =
    reply_answers _ _ c.answer_to_run.result _ c.reply_of.ensures
    (run_over _ _ _ _ _ _ c.args.start c.args.steps c.answer_to_run.result c.as_slice.ensures.value c.in-Ok.ensures c.answer_to_run.ensures)

pub returns-in-Err : goal.returns-in-Err
returns-in-Err g c =
    reply_weaker _ _ _ _ c.in-Err.reply
    (both_weaker _ _ IsUnread (IsRun c.args.start c.args.steps) (λ bytes told status text is. answers.IsRun.unread status text is)) (λ rose. rose)
    c.in-Err.ensures

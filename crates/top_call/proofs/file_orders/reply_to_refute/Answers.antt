use Rattle.std.specs.Prelude.{◌^◌}
use Rattle.refusal_lines.specs.Lines.{too_long_line}
use Rattle.call_ends.proofs.Laws.{unread_answers}
use Rattle.order_answers.specs.FileRefusals.{too_long}
use Rattle.order_answers.specs.RefuteAnswers.{AnswersRefute, refused}
use Rattle.top_call.proofs.file_orders.reply_to_refute.Goals as goal

pub returns-in-Err : goal.returns-in-Err
returns-in-Err g c =
    unread_answers (2 ^ 24) 1 too_long_line _ (AnswersRefute c.args.list.now c.args.at c.args.row.now) _ c.in-Err.reply
    (λ bytes status text is. refused status text (too_long status text is.long is.status_is is.text_is)) c.in-Err.ensures.replies

use Rattle.std.specs.Prelude.{◌^◌}
use Rattle.refusal_lines.specs.Lines.{too_long_line}
use Rattle.call_ends.proofs.Laws.{unread_answers}
use Rattle.order_answers.specs.FileRefusals.{IsRefused, too_long}
use Rattle.top_call.proofs.report_orders.read_code.Goals as goal

pub returns-clause-read : goal.returns-clause-read
returns-clause-read g c =
    unread_answers (2 ^ 24) 1 too_long_line _ IsRefused _ c.in-Err.reply
    (λ bytes status text is. too_long status text is.long is.status_is is.text_is) c.in-Err.ensures.replies

use Rattle.std.proofs.Common.{List, ℕ, IfOk, subst}
use Rattle.std.specs.Prelude.{◌^◌}
use Rattle.refusal_lines.specs.Lines.{too_long_line}
use Rattle.call_ends.proofs.Laws.{over_one, reply_answers, reply_weaker, unread_answers}
use Rattle.abi_answers.specs.Answers.{IsAnswerTo, too_long, word_of}
use Rattle.abi_call.proofs.calls.reply_to_check.Goals as goal

pub returns-in-Ok : goal.returns-in-Ok
returns-in-Ok g c =
    let bytes = c.in-Ok.bytes.items in
    let Is = IsAnswerTo c.args.form c.args.file.now (word_of c.args.entry) in
    let of_bytes : IfOk c.answer_to.result (λ answer. IsAnswerTo c.args.form c.as_bytes.result.now (word_of c.args.entry) bytes answer.0 answer.1.items) =
    subst (λ (b : List ℕ). IfOk c.answer_to.result (λ answer. IsAnswerTo c.args.form c.as_bytes.result.now (word_of c.args.entry) b answer.0 answer.1.items))
    c.deref.ensures.value c.answer_to.ensures in
    let answered : IfOk c.answer_to.result (λ answer. Is bytes answer.0 answer.1.items) =
    subst (λ (f : List ℕ). IfOk c.answer_to.result (λ answer. IsAnswerTo c.args.form f (word_of c.args.entry) bytes answer.0 answer.1.items))
    c.as_bytes.ensures.value of_bytes in
    reply_weaker (Is bytes) _ _ _ c.reply_of.result (λ status text is. over_one _ Is bytes status text c.in-Ok.ensures.whole is)
    (λ rose. rose) (reply_answers (Is bytes) _ c.answer_to.result c.reply_of.result c.reply_of.ensures answered)

pub returns-in-Err : goal.returns-in-Err
returns-in-Err g c =
    unread_answers (2 ^ 24) 1 too_long_line _ (IsAnswerTo c.args.form c.args.file.now (word_of c.args.entry)) _ c.in-Err.reply
    (λ bytes status text is. too_long is.long is.status_is is.text_is) c.in-Err.ensures.replies

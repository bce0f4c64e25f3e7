use Rattle.std.proofs.Common.{◌≡◌, ℕ, List, subst, arith}
use Rattle.std.proofs.lemmas.Result.{IfOk-weaker}
use Rattle.order_answers.specs.Answers.{IsAnswer, generated}
use Rattle.order_answers.specs.GenText.{gen_text}
use Rattle.order_answers.proofs.OutOfRange.{range_answer}
use Rattle.order_answers.proofs.gen_order.answer_to_gen.Goals as goal

pub summary_over-requires : goal.summary_over-requires
summary_over-requires c =
    let size = c.in-Ok.ensures.size in
    let few = c.in-Ok.ensures.file.in_range.1 in
    omega arith

pub returns-in-Ok : goal.returns-in-Ok
returns-in-Ok c =
    let same : c.deref.result.now ≡ c.in-Ok.bytes.items = cc in
    IfOk-weaker c.summary_over.result (λ answer. IsAnswer (gen_text c.args.n c.deref.result.now) c.args.list.now c.deref.result.now answer.0 answer.1.items) _
    (λ answer is. generated answer.0 answer.1.items c.in-Ok.bytes.items c.in-Ok.ensures.file
    (subst (λ (x : List ℕ). IsAnswer (gen_text c.args.n x) c.args.list.now x answer.0 answer.1.items) same is)) c.summary_over.ensures

pub returns-in_ok-value_line-in-Err-Range : goal.returns-in_ok-value_line-in-Err-Range
returns-in_ok-value_line-in-Err-Range c =
    range_answer c.args.n c.args.list.now c.in-Err-Range.n c.from.result _ c.in-Err-Range.field-0 c.in-Err-Range.field-0-is
    c.in-Err-Range.ensures.file c.from.ensures c.in_ok-value_line-in-Err-Range.ensures

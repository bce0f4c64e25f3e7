use Rattle.std.proofs.Common.{refl}
use Rattle.order_answers.specs.NarrowAnswers.{analysed}
use Rattle.order_answers.proofs.NarrowTold.{narrow_refused}
use Rattle.order_answers.proofs.narrow_order.answer_to_narrow.Goals as goal

pub returns-in_ok-narrow_text-in-Ok : goal.returns-in_ok-narrow_text-in-Ok
returns-in_ok-narrow_text-in-Ok c = analysed 0 _ c.in-Ok.report c.requires c.in-Ok.ensures refl c.in_ok-narrow_text-in-Ok.ensures

pub returns-in_ok-refusal_line-in-Err : goal.returns-in_ok-refusal_line-in-Err
returns-in_ok-refusal_line-in-Err c =
    narrow_refused c.args.list.now c.args.bytes.now c.in-Err.refusal _ c.requires c.in-Err.ensures c.in_ok-refusal_line-in-Err.ensures

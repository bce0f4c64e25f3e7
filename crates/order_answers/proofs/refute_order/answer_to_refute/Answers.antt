use Rattle.std.proofs.Common.{refl, ap, ◌∙◌}
use Rattle.order_answers.specs.RefuteAnswers.{no_point_line, no_point, bad_row, told}
use Rattle.order_answers.proofs.RefuteTold.{refute_refused}
use Rattle.order_answers.proofs.refute_order.answer_to_refute.Goals as goal

pub returns-in-Ok : goal.returns-in-Ok
returns-in-Ok c = told 0 _ c.requires.short c.in-Ok.ensures refl

pub returns-in_ok-refusal_line-in-Err-File : goal.returns-in_ok-refusal_line-in-Err-File
returns-in_ok-refusal_line-in-Err-File c =
    refute_refused c.args.list.now c.args.at c.args.row.now c.args.bytes.now c.in-Err-File.refusal _ c.requires.short
    (rw c.in-Err-File.field-0-is at c.in-Err-File.ensures) c.in_ok-refusal_line-in-Err-File.ensures

pub returns-in_ok-no_point_line-in-Err-NoSuchPoint : goal.returns-in_ok-no_point_line-in-Err-NoSuchPoint
returns-in_ok-no_point_line-in-Err-NoSuchPoint c =
    let over = rw c.in-Err-NoSuchPoint.field-0-is at c.in-Err-NoSuchPoint.ensures in
    no_point 1 _ c.requires.short over.1 refl (c.in_ok-no_point_line-in-Err-NoSuchPoint.ensures ∙ ap no_point_line over.0)

pub returns-in_ok-row_line-in-Err-Row : goal.returns-in_ok-row_line-in-Err-Row
returns-in_ok-row_line-in-Err-Row c =
    bad_row 1 _ c.in-Err-Row.refusal c.requires.short (rw c.in-Err-Row.field-0-is at c.in-Err-Row.ensures) refl c.in_ok-row_line-in-Err-Row.ensures

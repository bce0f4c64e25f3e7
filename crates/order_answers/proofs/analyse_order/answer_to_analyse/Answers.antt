use Rattle.std.proofs.Common.{refl}
use Rattle.order_answers.specs.Answers.{report_text, analysed}
use Rattle.order_answers.proofs.LinesTold.{answer_refused}
use Rattle.order_answers.proofs.analyse_order.answer_to_analyse.Goals as goal

pub returns-in_ok-write_report-in-Ok : goal.returns-in_ok-write_report-in-Ok
returns-in_ok-write_report-in-Ok c =
    rw c.in_ok-write_report-in-Ok.ensures (analysed 0 _ c.in-Ok.analysis.report c.in-Ok.analysis.certs c.requires c.in-Ok.ensures refl refl)

pub returns-in_ok-refusal_line-in-Err : goal.returns-in_ok-refusal_line-in-Err
returns-in_ok-refusal_line-in-Err c =
    answer_refused report_text c.args.list.now c.args.bytes.now c.in-Err.refusal _ c.requires c.in-Err.ensures c.in_ok-refusal_line-in-Err.ensures

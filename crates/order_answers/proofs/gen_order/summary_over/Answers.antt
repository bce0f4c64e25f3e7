use Rattle.std.proofs.Common.{refl}
use Rattle.order_answers.specs.Answers.{analysed}
use Rattle.order_answers.specs.GenText.{gen_text}
use Rattle.order_answers.proofs.LinesTold.{answer_refused}
use Rattle.order_answers.proofs.RowsTold.{few_points}
use Rattle.order_answers.proofs.gen_order.summary_over.Goals as goal

pub write_summary-requires : goal.write_summary-requires
write_summary-requires c =
    record { few = few_points c.args.bytes.now c.args.list.now c.in-Ok.analysis.report c.in-Ok.analysis.certs c.in-Ok.ensures }

pub returns-in_ok-write_summary-in-Ok : goal.returns-in_ok-write_summary-in-Ok
returns-in_ok-write_summary-in-Ok c =
    analysed 0 _ c.in-Ok.analysis.report c.in-Ok.analysis.certs c.requires c.in-Ok.ensures refl
    (c.in_ok-write_summary-in-Ok.ensures c.in-Ok.analysis.certs)

pub returns-in_ok-refusal_line-in-Err : goal.returns-in_ok-refusal_line-in-Err
returns-in_ok-refusal_line-in-Err c =
    answer_refused (gen_text c.args.n c.args.bytes.now) c.args.list.now c.args.bytes.now c.in-Err.refusal _ c.requires c.in-Err.ensures
    c.in_ok-refusal_line-in-Err.ensures

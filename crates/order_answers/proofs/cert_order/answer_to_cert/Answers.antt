use Rattle.std.proofs.Common.{refl}
use Rattle.order_answers.specs.Answers.{analysed}
use Rattle.order_answers.specs.CertsText.{certs_text}
use Rattle.order_answers.proofs.LinesTold.{answer_refused}
use Rattle.order_answers.proofs.cert_order.answer_to_cert.Goals as goal

pub write_certs-requires : goal.write_certs-requires
write_certs-requires c = rw c.as_slice.ensures (λ k d below. (c.in-Ok.ensures.is_report.certified.each k d below).among)

pub returns-in_ok-write_certs-in-Ok : goal.returns-in_ok-write_certs-in-Ok
returns-in_ok-write_certs-in-Ok c =
    let text = rw c.as_slice.ensures at c.in_ok-write_certs-in-Ok.ensures in
    analysed 0 _ c.in-Ok.analysis.report c.in-Ok.analysis.certs c.requires c.in-Ok.ensures refl text

pub returns-in_ok-refusal_line-in-Err : goal.returns-in_ok-refusal_line-in-Err
returns-in_ok-refusal_line-in-Err c =
    answer_refused certs_text c.args.list.now c.args.bytes.now c.in-Err.refusal _ c.requires c.in-Err.ensures c.in_ok-refusal_line-in-Err.ensures

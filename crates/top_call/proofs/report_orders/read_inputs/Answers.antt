use Rattle.std.proofs.Common.{refl}
use Rattle.top_call.proofs.InputsRead.{no_code, no_report_bytes}
use Rattle.top_call.proofs.report_orders.read_inputs.Goals as goal

pub returns-in-Err : goal.returns-in-Err
returns-in-Err g c = no_code _ _ _ _ c.in-Err.reply c.in-Err.ensures.read

pub returns-in-Err-report_bytes : goal.returns-in-Err-report_bytes
returns-in-Err-report_bytes g c =
    let replies = rw (c.in-Ok.ensures.contents_stay c.args.report.now, c.in-Ok.ensures.counts_stay refl c.args.report.now)
    at c.in-Err-report_bytes.ensures.replies in
    no_report_bytes _ _ _ _ _ _ c.in-Err-report_bytes.reply c.in-Ok.ensures.read replies

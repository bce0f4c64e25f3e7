use Rattle.order_answers.proofs.LinesTold.{bytes_refused, code_refused}
use Rattle.order_answers.proofs.file_code.code_of.Goals as goal

pub returns-in-Err : goal.returns-in-Err
returns-in-Err c = bytes_refused c.args.bytes.now c.in-Err.refusal c.in-Err.ensures

pub returns-in-Err-points_of : goal.returns-in-Err-points_of
returns-in-Err-points_of c =
    code_refused c.args.bytes.now c.in-Ok.image c.in-Err-points_of.refusal c.in-Ok.ensures c.in-Err-points_of.ensures

use Rattle.std.proofs.Common.{refl}
use Rattle.run_answers.specs.Answers.{refused}
use Rattle.run_answers.proofs.answer.run_answer.Goals as goal

pub returns-in_ok-report_line-in-Err : goal.returns-in_ok-report_line-in-Err
returns-in_ok-report_line-in-Err g c =
    refused c.in-Err.refusal c.in-Err.ensures.told c.in_ok-report_line-in-Err.ensures.refused refl
    c.in_ok-report_line-in-Err.ensures.line

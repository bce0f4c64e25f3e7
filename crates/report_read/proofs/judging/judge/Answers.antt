use Rattle.report_read.proofs.StepsJudged.{step_of_relation, step_of_rows, step_of_other}
use Rattle.report_read.proofs.judging.judge.Goals as goal

pub returns-in-Some : goal.returns-in-Some
returns-in-Some c =
    step_of_relation c.args.number c.args.draft c.args.piece.now c.in-Some.relation c.relation_step.result c.in-Some.ensures c.relation_step.ensures

pub returns-in-Err : goal.returns-in-Err
returns-in-Err c = step_of_rows c.args.number c.args.draft c.args.piece.now c.in-Err.refusal c.in-None.ensures c.in-Err.ensures

pub returns-in-Ok : goal.returns-in-Ok
returns-in-Ok c =
    step_of_other c.args.number c.args.draft c.args.piece.now c.in-None.ensures c.in-Ok.ensures.0 c.in-Ok.draft c.in-Ok.ensures.1 c.judge_other.result c.judge_other.ensures

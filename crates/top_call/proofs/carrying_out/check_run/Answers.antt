use Rattle.std.proofs.Common.{refl}
use Rattle.call_ends.specs.Calls.{answered}
use Rattle.top_call.specs.Answers.{no_registers, run}
use Rattle.call_ends.proofs.Laws.{reply_ends}
use Rattle.top_call.proofs.carrying_out.check_run.Goals as goal

pub returns-in-Ok-Some-clause-carried_out : goal.returns-in-Ok-Some-clause-carried_out
returns-in-Ok-Some-clause-carried_out g c =
    run c.in-Ok-Some.start (rw c.in-Ok-Some.field-0-is at c.in-Ok-Some.ensures)
    (reply_ends _ _ _ c.reply_to_run.result _ c.reply_to_run.ensures c.say_reply.ensures.said)

pub returns-in-Ok-None-clause-carried_out : goal.returns-in-Ok-None-clause-carried_out
returns-in-Ok-None-clause-carried_out g c =
    no_registers (rw c.in-Ok-None.field-0-is at c.in-Ok-None.ensures) (answered _ 2 _ (record { status_is = refl; text_is = refl }) c.say.ensures.said)

use Rattle.std.proofs.Common.{refl}
use Rattle.call_ends.specs.Calls.{answered}
use Rattle.call_ends.proofs.Laws.{reply_ends}
use Rattle.top_call.specs.Answers.{not_asked, asked}
use Rattle.top_call.proofs.carrying_out.ask_row.Goals as goal

pub returns-in-Some-clause-carried_out : goal.returns-in-Some-clause-carried_out
returns-in-Some-clause-carried_out g c =
    asked c.in-Some.point c.in-Some.ensures (reply_ends _ _ _ c.reply_to_refute.result _ c.reply_to_refute.ensures c.say_reply.ensures.said)

pub returns-in-None-clause-carried_out : goal.returns-in-None-clause-carried_out
returns-in-None-clause-carried_out g c =
    not_asked c.in-None.ensures (answered _ 2 _ (record { status_is = refl; text_is = refl }) c.say.ensures.said)

use Rattle.std.proofs.Common.{refl}
use Rattle.call_ends.specs.Calls.{answered}
use Rattle.call_ends.proofs.Laws.{reply_answers, reply_ends}
use Rattle.top_call.proofs.carrying_out.carry_out.Goals as goal

pub returns-in-Usage-clause-carried_out : goal.returns-in-Usage-clause-carried_out
returns-in-Usage-clause-carried_out g c = rw c.in-Usage.is (answered _ 2 _ (record { status_is = refl; text_is = refl }) c.say.ensures.said)

pub returns-in-Analyse-clause-carried_out : goal.returns-in-Analyse-clause-carried_out
returns-in-Analyse-clause-carried_out g c =
    rw c.in-Analyse.is (reply_ends _ _ _ c.reply_to_analyse.result _ c.reply_to_analyse.ensures c.say_reply.ensures.said)

pub returns-in-Certify-clause-carried_out : goal.returns-in-Certify-clause-carried_out
returns-in-Certify-clause-carried_out g c =
    rw c.in-Certify.is (reply_ends _ _ _ c.reply_to_cert.result _ c.reply_to_cert.ensures c.say_reply-in-Certify.ensures.said)

pub returns-in-ListCode-clause-carried_out : goal.returns-in-ListCode-clause-carried_out
returns-in-ListCode-clause-carried_out g c =
    rw c.in-ListCode.is (reply_ends _ _ _ c.reply_to_list.result _ c.reply_to_list.ensures c.say_reply-in-ListCode.ensures.said)

pub returns-in-Generate-clause-carried_out : goal.returns-in-Generate-clause-carried_out
returns-in-Generate-clause-carried_out g c =
    rw c.in-Generate.is (reply_ends _ _ _ c.reply_of.result _
    (reply_answers _ ⊥ c.answer_to_gen.result _ c.reply_of.ensures c.answer_to_gen.ensures) c.say_reply-in-Generate.ensures.said)

pub returns-in-CheckRun-clause-carried_out : goal.returns-in-CheckRun-clause-carried_out
returns-in-CheckRun-clause-carried_out g c = rw c.in-CheckRun.is c.check_run.ensures.carried_out

pub returns-in-Narrow-clause-carried_out : goal.returns-in-Narrow-clause-carried_out
returns-in-Narrow-clause-carried_out g c =
    rw c.in-Narrow.is (reply_ends _ _ _ c.reply_to_narrow.result _ c.reply_to_narrow.ensures c.say_reply-in-Narrow.ensures.said)

pub returns-in-Upgrade-clause-carried_out : goal.returns-in-Upgrade-clause-carried_out
returns-in-Upgrade-clause-carried_out g c =
    rw c.in-Upgrade.is (reply_ends _ _ _ c.reply_to_upgrade.result _ c.reply_to_upgrade.ensures c.say_reply-in-Upgrade.ensures.said)

pub returns-in-Refute-clause-carried_out : goal.returns-in-Refute-clause-carried_out
returns-in-Refute-clause-carried_out g c = rw c.in-Refute.is c.ask_row.ensures.carried_out

use Rattle.call_ends.proofs.Laws.{reply_ends}
use Rattle.abi_call.proofs.calls.check_file.Goals as goal

pub returns-clause-ends : goal.returns-clause-ends
returns-clause-ends g c = reply_ends _ _ _ c.reply_to_check.result _ c.reply_to_check.ensures c.say_reply.ensures.said

use Rattle.call_ends.proofs.saying.say_reply.Goals as goal

pub returns-in-ReadFault-clause-said : goal.returns-in-ReadFault-clause-said
returns-in-ReadFault-clause-said g c = rw c.in-ReadFault.is c.say-in-ReadFault.ensures.said

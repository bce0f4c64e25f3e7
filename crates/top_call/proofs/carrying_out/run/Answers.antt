use Rattle.orders.specs.Orders.{order_of, texts_of}
use Rattle.top_call.proofs.MemoryWanting.{memory_wanting}
use Rattle.top_call.proofs.carrying_out.run.Goals as goal

pub returns-in-Ok-clause-carried_out : goal.returns-in-Ok-clause-carried_out
returns-in-Ok-clause-carried_out g c = rw (← c.in-Ok.ensures.order) c.carry_out.ensures.carried_out

pub returns-in-Err-clause-carried_out : goal.returns-in-Err-clause-carried_out
returns-in-Err-clause-carried_out g c = memory_wanting (order_of (texts_of c.args.words.now)) _ _ c.say_reply.ensures.said

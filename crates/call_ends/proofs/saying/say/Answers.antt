use Rattle.std.proofs.Common.{refl}
use Rattle.call_ends.specs.Calls.{whole, cut}
use Rattle.call_ends.proofs.saying.say.Goals as goal

pub returns-in-Ok-clause-said : goal.returns-in-Ok-clause-said
returns-in-Ok-clause-said g c = whole _ c.in-Ok.ensures.ok refl

pub returns-in-Err-clause-said : goal.returns-in-Err-clause-said
returns-in-Err-clause-said g c = cut _ c.in-Err.ensures.cause c.in-Err.ensures.err refl

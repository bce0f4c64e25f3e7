use Rattle.lifted_calls.proofs.Sure.{calls_sure}
use Rattle.lifted_calls.proofs.laws.lifted_calls_are_plain.Goals as goal

pub returns : goal.returns
returns c = calls_sure

use Rattle.never_neither.proofs.HeadsCounted.{heads_counted}
use Rattle.never_neither.proofs.laws.heads_are_counted.Goals as goal

pub returns : goal.returns
returns c = λ program few many. heads_counted program few many

use Rattle.never_neither.proofs.NamesThere.{list_read}
use Rattle.never_neither.proofs.laws.lists_are_read.Goals as goal

pub returns : goal.returns
returns c = λ scope list no none. list_read scope list no none

use Rattle.abi_meanings.proofs.Endless.{none_ends}
use Rattle.abi_meanings.proofs.laws.never_ends.Goals as goal

pub returns : goal.returns
returns c = λ image rows ending p r walk settled reads told run i f e. none_ends image rows ending p r walk settled reads told run i f e

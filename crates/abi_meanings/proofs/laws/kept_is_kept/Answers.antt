use Rattle.abi_meanings.proofs.Keeping.{kept_home}
use Rattle.abi_meanings.proofs.laws.kept_is_kept.Goals as goal

pub returns : goal.returns
returns c = λ t code ends ending p r walk settled reads told run i f e. kept_home t code ends ending p r walk settled reads told run i f e

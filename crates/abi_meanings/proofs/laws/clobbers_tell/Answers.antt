use Rattle.abi_meanings.proofs.Clobbering.{off_there}
use Rattle.abi_meanings.proofs.laws.clobbers_tell.Goals as goal

pub returns : goal.returns
returns c = λ t code ends ending entry p r a s m settled reads way fault told b k known. off_there t code ends ending entry p r a s m settled reads way fault told b k known

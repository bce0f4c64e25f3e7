use Rattle.never_neither.proofs.ProgramsThere.{program_there}
use Rattle.never_neither.proofs.laws.programs_are_lifted.Goals as goal

pub returns : goal.returns
returns c = λ points names has none. program_there points names has none

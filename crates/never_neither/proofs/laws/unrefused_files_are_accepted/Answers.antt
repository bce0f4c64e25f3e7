use Rattle.never_neither.proofs.Together.{taken}
use Rattle.never_neither.proofs.laws.unrefused_files_are_accepted.Goals as goal

pub returns : goal.returns
returns c = λ bytes list unrefused none. taken bytes list unrefused none

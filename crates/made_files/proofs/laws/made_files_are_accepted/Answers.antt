use Rattle.made_files.proofs.Lemmas.{made_accepted}
use Rattle.made_files.proofs.laws.made_files_are_accepted.Goals as goal

pub returns : goal.returns
returns c = λ n bytes made. made_accepted n bytes made

use Rattle.run_paths.proofs.Following.{follows}
use Rattle.run_paths.proofs.laws.runs_follow.Goals as goal

pub returns : goal.returns
returns c = λ image lift run n is r keeps i low. follows image lift is run n r keeps i low

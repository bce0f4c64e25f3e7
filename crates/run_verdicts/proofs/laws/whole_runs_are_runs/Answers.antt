use Rattle.run_verdicts.proofs.Whole.{whole}
use Rattle.run_verdicts.proofs.laws.whole_runs_are_runs.Goals as goal

pub returns : goal.returns
returns c = λ image lift report limit seen w. whole image lift report limit seen w

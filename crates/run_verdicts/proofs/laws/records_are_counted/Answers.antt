use Rattle.run_verdicts.proofs.Counted.{counted_run}
use Rattle.run_verdicts.proofs.laws.records_are_counted.Goals as goal

pub returns : goal.returns
returns c = λ image lift report limit seen w. counted_run image lift report limit seen w

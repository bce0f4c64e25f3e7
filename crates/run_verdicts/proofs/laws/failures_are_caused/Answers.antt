use Rattle.run_verdicts.proofs.Caused.{failures_are_caused}
use Rattle.run_verdicts.proofs.laws.failures_are_caused.Goals as goal

pub returns : goal.returns
returns c = λ image lift report limit seen found w true_report is.
    failures_are_caused image lift report limit seen found w true_report is

use Rattle.run_verdicts.proofs.Telling.{findings_tell}
use Rattle.run_verdicts.proofs.laws.watches_tell.Goals as goal

pub returns : goal.returns
returns c = λ image lift scene limit a i at s machine last earlier h.
    findings_tell image lift scene limit a i at s machine last earlier h

use Rattle.run_verdicts.proofs.OneRun.{one_run}
use Rattle.run_verdicts.proofs.laws.runs_are_one.Goals as goal

pub returns : goal.returns
returns c = λ image points offsets report regs limit seen others steps made stop end are h k.
    one_run image points offsets report regs limit seen others steps made stop end are h k

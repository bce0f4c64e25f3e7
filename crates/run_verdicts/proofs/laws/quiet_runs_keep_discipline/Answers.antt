use Rattle.run_verdicts.proofs.Quiet.{keeps_discipline}
use Rattle.run_verdicts.proofs.laws.quiet_runs_keep_discipline.Goals as goal

pub returns : goal.returns
returns c = λ image lift scene limit seen run k is steps within quiet.
    keeps_discipline image lift scene is limit seen run steps k within quiet

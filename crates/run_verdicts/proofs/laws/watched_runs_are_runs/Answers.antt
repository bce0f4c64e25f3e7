use Rattle.run_verdicts.proofs.Reached.{reached}
use Rattle.run_verdicts.proofs.laws.watched_runs_are_runs.Goals as goal

pub returns : goal.returns
returns c = λ image lift scene limit regs start last seen is begins way.
    reached image lift scene limit is regs start last seen begins way

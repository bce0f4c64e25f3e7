use Rattle.rv_step.proofs.HartsKept.{step_keeps_hart}
use Rattle.rv_step.proofs.laws.steps_keep_machines.Goals as goal

pub returns : goal.returns
returns c = step_keeps_hart

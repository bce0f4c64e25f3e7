use Rattle.run_verdicts.proofs.Leaving.{stray_found}
use Rattle.run_verdicts.proofs.laws.stray_returns_are_found.Goals as goal

pub returns : goal.returns
returns c = λ image lift scene limit regs start last seen i at s machine is begins way makes leaves.
    stray_found image lift scene limit regs start last seen i at s machine is begins way makes leaves

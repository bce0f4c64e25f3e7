use Rattle.run_verdicts.proofs.AtPoints.{ends_at_point}
use Rattle.run_verdicts.proofs.LeftFor.{left_for}
use Rattle.run_verdicts.proofs.laws.runs_leave_for_cause.Goals as goal

pub returns : goal.returns
returns c = λ image scene limit regs start last before after steps address is begins way ends.
    left_for image scene limit is last (ends_at_point image scene limit is regs start last before begins way) address after
    steps ends

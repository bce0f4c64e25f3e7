use Rattle.run_verdicts.proofs.AtPoints.{ends_at_point}
use Rattle.run_verdicts.proofs.laws.runs_end_at_points.Goals as goal

pub returns : goal.returns
returns c = λ image scene limit regs start last seen is begins way.
    ends_at_point image scene limit is regs start last seen begins way

use Rattle.run_verdicts.proofs.AtPoints.{ends_at_point}
use Rattle.run_verdicts.proofs.ShownAt.{shown_at}
use Rattle.run_verdicts.proofs.laws.stops_are_shown.Goals as goal

pub returns : goal.returns
returns c = λ image scene limit regs start last before after steps stop is begins way ends stays.
    shown_at scene limit last (ends_at_point image scene limit is regs start last before begins way) after steps stop stays
    ends

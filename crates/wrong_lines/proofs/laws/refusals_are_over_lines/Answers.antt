use Rattle.wrong_lines.proofs.Whole.{over_lines}
use Rattle.wrong_lines.proofs.laws.refusals_are_over_lines.Goals as goal

pub returns : goal.returns
returns c = over_lines

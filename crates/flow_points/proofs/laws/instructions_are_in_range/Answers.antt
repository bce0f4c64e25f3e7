use Rattle.flow_points.proofs.PointLaws.{in_range}
use Rattle.flow_points.proofs.laws.instructions_are_in_range.Goals as goal

pub returns : goal.returns
returns c = in_range

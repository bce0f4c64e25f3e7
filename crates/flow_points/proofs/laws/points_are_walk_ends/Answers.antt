use Rattle.flow_points.proofs.PointLaws.{walk_ends}
use Rattle.flow_points.proofs.laws.points_are_walk_ends.Goals as goal

pub returns : goal.returns
returns c = walk_ends

use Rattle.flow_points.proofs.OneRefusal.{bad_point_named}
use Rattle.flow_points.proofs.laws.refusal_names_a_bad_point.Goals as goal

pub returns : goal.returns
returns c = bad_point_named

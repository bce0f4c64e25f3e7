use Rattle.flow_points.proofs.PointLaws.{begins, goes_on}
use Rattle.flow_points.proofs.laws.points_are_closed.Goals as goal

pub returns-clause-begins : goal.returns-clause-begins
returns-clause-begins c = begins

pub returns-clause-goes_on : goal.returns-clause-goes_on
returns-clause-goes_on c = goes_on

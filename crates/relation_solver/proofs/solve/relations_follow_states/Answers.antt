use Rattle.relation_solver.proofs.Following.{follow_states}
use Rattle.relation_solver.proofs.solve.relations_follow_states.Goals as goal

pub returns : goal.returns
returns g c = follow_states g.P.RowSet.member

use Rattle.narrow_solver.proofs.Following.{follow_narrow_states}
use Rattle.narrow_solver.proofs.meaning.narrow_relations_follow_states.Goals as goal

pub returns : goal.returns
returns g c = follow_narrow_states g.P.RowSet.member

use Rattle.never_neither.proofs.PointsThere.{points_found}
use Rattle.never_neither.proofs.laws.points_are_found.Goals as goal

pub returns : goal.returns
returns c = λ image unrefused none. points_found image unrefused none

use Rattle.affine_lift.proofs.VisibleSeen.{visible_seen}
use Rattle.affine_lift.proofs.laws.visible_names_are_seen.Goals as goal

pub returns : goal.returns
returns c = visible_seen

use Rattle.merged_heads.proofs.HeadsTell.{holds_alike, certified_alike}
use Rattle.merged_heads.proofs.laws.heads_tell_alike.Goals as goal

pub returns-clause-relations : goal.returns-clause-relations
returns-clause-relations c = holds_alike

pub returns-clause-certified : goal.returns-clause-certified
returns-clause-certified c = certified_alike

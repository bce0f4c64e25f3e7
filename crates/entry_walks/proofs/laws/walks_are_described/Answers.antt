use Rattle.entry_walks.proofs.Walking.{there_by}
use Rattle.entry_walks.proofs.laws.walks_are_described.Goals as goal

pub returns : goal.returns
returns c = λ t code entry p a s m r stop settled reads way e. there_by t code entry p r a s m stop settled reads way e

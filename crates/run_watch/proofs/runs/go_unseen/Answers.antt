use Rattle.run_watch.proofs.Silent.{quietly_none}
use Rattle.run_watch.proofs.runs.go_unseen.Goals as goal

pub returns-else-are_known : goal.returns-else-are_known
returns-else-are_known g c = quietly_none _ _ _ c.requires.within

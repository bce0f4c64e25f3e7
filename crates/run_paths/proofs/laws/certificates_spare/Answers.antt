use Rattle.run_paths.proofs.Sparing.{spare}
use Rattle.run_paths.proofs.Weakening.{weaken}
use Rattle.run_paths.proofs.laws.certificates_spare.Goals as goal

pub returns-clause-spare : goal.returns-clause-spare
returns-clause-spare c = λ image lift spared run n is r are keeps. spare image lift is spared are run n r keeps

pub returns-clause-weaken : goal.returns-clause-weaken
returns-clause-weaken c = weaken

use Rattle.analyser_core.proofs.RunsTold.{tells_of_runs}
use Rattle.analyser_core.proofs.laws.reports_tell_of_runs.Goals as goal

pub returns : goal.returns
returns c = tells_of_runs

use Rattle.own_reports.proofs.Arrivals.{open_end}
use Rattle.own_reports.proofs.laws.open_paths_are_the_programs.Goals as goal

pub returns : goal.returns
returns c = λ image lift start activations maps at is path. open_end image lift is start activations maps at path

use Rattle.run_paths.proofs.Opened.{calls_open, first_opens}
use Rattle.run_paths.proofs.laws.activations_open.Goals as goal

pub returns : goal.returns
returns c = λ image lift run n is r keeps. (first_opens image lift is run, calls_open image lift is run n r keeps)

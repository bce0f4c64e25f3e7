use Rattle.run_paths.proofs.Obeying.{obeys}
use Rattle.run_paths.proofs.laws.relations_hold_in_runs.Goals as goal

pub returns : goal.returns
returns c = λ image lift run n is r keeps i low. obeys image lift is run n r keeps i low

use Rattle.entry_runs.proofs.Running.{described}
use Rattle.entry_runs.proofs.laws.runs_are_described.Goals as goal

pub returns : goal.returns
returns c = λ t code p run n settled reads owned r keeps i low. described t code p run n settled reads owned r keeps i low

use Rattle.entry_runs.proofs.Running.{restores}
use Rattle.entry_runs.proofs.laws.kept_registers_are_kept.Goals as goal

pub returns : goal.returns
returns c = λ t code p run n settled reads owned r keeps i low f rest are flow. restores t code p run n settled reads owned r keeps i low f rest are flow

use Rattle.run_verdicts.proofs.Changing.{record_tells}
use Rattle.run_verdicts.proofs.laws.records_tell_changes.Goals as goal

pub returns : goal.returns
returns c = λ m n told hart s own r. record_tells m n told hart s own r

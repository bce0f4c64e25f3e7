use Rattle.run_verdicts.proofs.Ecalls.{keeps_rules}
use Rattle.run_verdicts.proofs.laws.quiet_ecalls_keep_rules.Goals as goal

pub returns : goal.returns
returns c = λ image lift m n activations at next is there ecall calls same. keeps_rules image lift is m n at ecall same activations there

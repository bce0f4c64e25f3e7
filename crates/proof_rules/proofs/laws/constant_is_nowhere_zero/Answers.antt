use Rattle.proof_rules.proofs.Nowhere.{nowhere_zero}
use Rattle.proof_rules.proofs.laws.constant_is_nowhere_zero.Goals as goal

pub returns : goal.returns
returns c = λ program u w holds r. nowhere_zero program u w holds r

use Rattle.rvc_expand.proofs.OneMeaning.{one_meaning}
use Rattle.rvc_expand.proofs.laws.meanings_are_one.Goals as goal

pub returns : goal.returns
returns c = one_meaning

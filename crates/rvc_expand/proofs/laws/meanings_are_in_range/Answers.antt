use Rattle.rvc_expand.proofs.InRange.{meaning_in_range}
use Rattle.rvc_expand.proofs.laws.meanings_are_in_range.Goals as goal

pub returns : goal.returns
returns c = meaning_in_range

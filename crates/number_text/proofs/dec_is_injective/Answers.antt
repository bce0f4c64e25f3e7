use Rattle.std.proofs.lemmas.Fmt.{decimal_injective}
use Rattle.number_text.proofs.dec_is_injective.Goals as goal

pub returns : goal.returns
returns c = decimal_injective

use Rattle.rv_decode.proofs.RegisterNames.{name_is_plain, register_of-name, register_of-range}
use Rattle.rv_decode.proofs.laws.names_are_read.Goals as goal

pub returns-clause-same : goal.returns-clause-same
returns-clause-same c = register_of-name

pub returns-clause-in_range : goal.returns-clause-in_range
returns-clause-in_range c = register_of-range

pub returns-clause-plain : goal.returns-clause-plain
returns-clause-plain c = name_is_plain

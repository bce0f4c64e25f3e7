use Rattle.rv_decode.proofs.Table.{in_range, one_instruction}
use Rattle.rv_decode.proofs.laws.table_is_one_to_one.Goals as goal

pub returns-clause-one_instruction : goal.returns-clause-one_instruction
returns-clause-one_instruction c = one_instruction

pub returns-clause-in_range : goal.returns-clause-in_range
returns-clause-in_range c = in_range

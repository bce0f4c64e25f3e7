use Rattle.affine_lift.proofs.OneReading.{not_refused, one_list}
use Rattle.affine_lift.proofs.laws.lists_are_read_in_one_way.Goals as goal

pub returns-clause-names : goal.returns-clause-names
returns-clause-names c = one_list

pub returns-clause-refused : goal.returns-clause-refused
returns-clause-refused c = not_refused

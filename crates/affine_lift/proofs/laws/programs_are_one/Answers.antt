use Rattle.affine_lift.proofs.OneProgram.{one_program}
use Rattle.affine_lift.proofs.laws.programs_are_one.Goals as goal

pub returns : goal.returns
returns c = one_program

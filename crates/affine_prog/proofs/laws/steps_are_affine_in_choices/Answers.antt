use Rattle.affine_prog.proofs.Steps.{step_is_linear}
use Rattle.affine_prog.proofs.StepChoices.{step_is_affine_in_choices}
use Rattle.affine_prog.proofs.Columns.{choices_move_constants}
use Rattle.affine_prog.proofs.laws.steps_are_affine_in_choices.Goals as goal

pub returns : goal.returns
returns c = record { linear = step_is_linear; affine = step_is_affine_in_choices; constants = choices_move_constants }

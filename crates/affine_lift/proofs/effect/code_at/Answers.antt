use Rattle.frame_offsets.proofs.Walking.{well_formed}
use Rattle.affine_lift.proofs.effect.code_at.Goals as goal

pub returns-clause-instr : goal.returns-clause-instr
returns-clause-instr c = well_formed c.args.points.now c.args.i c.code.result c.known.ensures c.code.ensures

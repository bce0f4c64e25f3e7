use Rattle.affine_prog.proofs.Calls.{call_map-affine, call_is_bilinear}
use Rattle.affine_prog.proofs.laws.calls_are_bilinear.Goals as goal

pub returns : goal.returns
returns c = record { same = call_map-affine; bilinear = call_is_bilinear }

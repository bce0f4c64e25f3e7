use Rattle.std.proofs.Common.{◌≡◌, take}
use Rattle.affine_lift.specs.Lifting.{edges_along_by, offset_from}
use Rattle.affine_lift.proofs.program.all_edges.Given as goal

abbrev pub invariant-loop-i : goal.invariant-loop-i
invariant-loop-i l = l.edges ≡ edges_along_by l.width l.points (offset_from l.points l.offsets) l.names (take l.i l.points.points)

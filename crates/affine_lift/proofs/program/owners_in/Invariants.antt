use Rattle.std.proofs.Common.{◌≡◌, ◌++◌, map, take}
use Rattle.flow_points.specs.PointLists.{entries_of}
use Rattle.affine_lift.specs.Lifting.{number_of}
use Rattle.affine_lift.proofs.program.owners_in.Given as goal

abbrev pub invariant-loop-i : goal.invariant-loop-i
invariant-loop-i l = l.owners ≡ map (number_of l.points) (take l.i (entries_of l.points.points))

abbrev pub invariant-loop-entry : goal.invariant-loop-entry
invariant-loop-entry l = l.owners ≡ map (number_of l.points) (entries_of l.points.points ++ take l.entry-index l.points.procedures)

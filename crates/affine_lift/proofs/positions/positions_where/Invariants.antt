use Rattle.std.proofs.Common.{◌≡◌, take}
use Rattle.affine_lift.specs.Lifting.{chooses, positions_where}
use Rattle.affine_lift.proofs.positions.positions_where.Given as goal

abbrev pub invariant-loop-i : goal.invariant-loop-i
invariant-loop-i l = l.positions ≡ positions_where (chooses l.chosen) (take l.i l.names)

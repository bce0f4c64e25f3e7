use Rattle.std.proofs.Common.{◌/◌}
use Rattle.row_images.proofs.Zeros.{MadeSoFar}
use Rattle.row_images.proofs.rows.under_zeros.Given as goal

abbrev pub invariant-loop-assign : goal.invariant-loop-assign
invariant-loop-assign g l = MadeSoFar (g.row.N / 17) l.assigns l.fn.start l.made l.assign-index

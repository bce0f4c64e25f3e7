use Rattle.std.proofs.Common.{◌/◌}
use Rattle.map_modules.specs.RowSums.{HasAdded}
use Rattle.map_modules.proofs.kernels.add_products.Given as goal

abbrev pub invariant-loop-j : goal.invariant-loop-j
invariant-loop-j g l = HasAdded (g.row.N / 17) l.i l.c l.v l.l l.j l.initial.words l.words

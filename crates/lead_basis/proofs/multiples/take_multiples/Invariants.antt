use Rattle.std.proofs.Common.{take}
use Rattle.lead_basis.specs.Remainders.{IsRemainder}
use Rattle.lead_basis.proofs.multiples.take_multiples.Given as goal

abbrev pub invariant-loop-by : goal.invariant-loop-by
invariant-loop-by g l = IsRemainder g.row.N (take l.by-index l.basis) l.fn.row l.row

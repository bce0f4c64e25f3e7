use Rattle.lead_basis.proofs.Filling.{IsTurned}
use Rattle.lead_basis.proofs.mirror.turned.Given as goal

abbrev pub invariant-loop-i : goal.invariant-loop-i
invariant-loop-i l = IsTurned l.row l.words l.i

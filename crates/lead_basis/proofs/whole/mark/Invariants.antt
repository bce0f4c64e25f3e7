use Rattle.lead_basis.specs.Whole.{HasWhole}
use Rattle.lead_basis.proofs.whole.mark.Given as goal

abbrev pub invariant-loop-i : goal.invariant-loop-i
invariant-loop-i g l = HasWhole g.row.N l.rows l.marks

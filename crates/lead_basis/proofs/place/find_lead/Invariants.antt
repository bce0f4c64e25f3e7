use Rattle.std.proofs.Common.{◌-◌, length}
use Rattle.lead_basis.specs.Inserts.{HasPassed}
use Rattle.lead_basis.proofs.place.find_lead.Given as goal

abbrev pub invariant-loop-at : goal.invariant-loop-at
invariant-loop-at g l = HasPassed l.rows l.fn.from l.position l.at

abbrev pub decreases-loop-at : goal.decreases-loop-at
decreases-loop-at g l = length l.rows - l.at

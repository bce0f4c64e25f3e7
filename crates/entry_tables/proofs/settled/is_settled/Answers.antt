use Rattle.entry_tables.proofs.Settling.{settled_there, reads_there}
use Rattle.entry_tables.proofs.settled.is_settled.Goals as goal

pub returns : goal.returns
returns c = record {
  settled = λ yes. settled_there _ _ (c.in_ok-checked.ensures yes);
  reads = λ yes. reads_there _ _ (c.in_ok-checked.ensures yes);
}
